use Rattle.std.proofs.Common.{◌≡◌, ◌++◌, ◌∷◌, [], true, false, sym, ap, Vec, Global, ℕ, append_assoc}
use Rattle.std.proofs.lemmas.List.{append-nil}
use Rattle.problem.specs.Resolving.{is_free_install, free_versions}
use Rattle.problem.proofs.Resolving.{free_versions_none, free_versions_yes, free_versions_no}
use Rattle.problem.proofs.Problem.push_versions.Goals as goal
use Rattle.problem.proofs.Problem.push_versions.Goals.{then-is_free_install+in_ok-push, else-is_free_install}

pub loop-version-init : goal.loop-version-init
loop-version-init c = rw (free_versions_none c.args.self.now c.args.set.now c.args.first) (sym (append-nil c.args.list.now.items))

pub loop-version-preserved : goal.loop-version-preserved
loop-version-preserved c =
    let v = c.loop-version.version in
    let before = free_versions c.args.self.now c.args.set.now c.args.first v in
    elim c.if-is_free_install.branch [
      | then-is_free_install+in_ok-push w ↦
          let yes : is_free_install c.args.self.now c.args.set.now v ≡ true = cc (c.is_free_install.ensures, w.if-is_free_install.true) in
          let more = free_versions_yes c.args.self.now c.args.set.now c.args.first v c.loop-version.auto.version yes in
          let same : c.if-is_free_install.list.items ≡ w.push.new.self.items = ap (λ (v : Vec ℕ Global). v.items) w.list-is in
          let joined : (c.args.list.now.items ++ before) ++ v ∷ [] ≡ c.args.list.now.items ++ (before ++ v ∷ []) = append_assoc c.args.list.now.items before (v ∷ []) in
          cc (same, w.in_ok-push.ensures.items, c.loop-version.invariant, more, joined)
      | else-is_free_install w ↦
          let no : is_free_install c.args.self.now c.args.set.now v ≡ false = cc (c.is_free_install.ensures, w.if-is_free_install.false) in
          let more = free_versions_no c.args.self.now c.args.set.now c.args.first v no in
          let same : c.if-is_free_install.list.items ≡ c.loop-version.list.items = ap (λ (v : Vec ℕ Global). v.items) w.list-is in
          cc (same, c.loop-version.invariant, more)
    ]
