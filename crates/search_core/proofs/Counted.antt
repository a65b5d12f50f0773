-- What is counted beside the entries, after one more entry.
use Rattle.std.proofs.Common.{inl, inr, ◌≡◌, ◌<◌, ◌+◌, ℕ, zero, suc, true, false, List, [], ◌∷◌, ◌++◌, Some, None, Option, refl, ap, sym, subst, ◌∙◌, arith, length, length-append, length-set, get_or, get_or-set_same, set, map, replicate}
use Rattle.std.proofs.lemmas.Bool.{cases_eq}
use Rattle.std.proofs.lemmas.List.{get_or-set_other}
use Rattle.std.specs.Option.{unwrap_or}
use Rattle.resolver_model.specs.declared.lines.Line.{Line}
use Rattle.resolver_model.specs.declared.history.By.{By}
use Rattle.resolver_model.specs.declared.history.Command.{Command}
use Rattle.resolver_model.specs.declared.history.Command.TheVariants.{Next}
use Rattle.resolver_model.specs.declared.history.Reply.{Reply}
use Rattle.resolver_model.specs.declared.history.Reply.TheVariants.{Solution}
use Rattle.resolver_model.specs.declared.history.Entry.TheVariants.{Say, Take, Put, Back}
use Rattle.resolver_model.specs.Costs.{cost}
use Rattle.resolver_model.specs.Births.{split_at}
use Rattle.resolver_model.specs.Histories.{History, given_at, out_at, puts_since, delivered, shown}
use Rattle.resolver_model.specs.Answers.{Setting, delivery_count}
use Rattle.laws_session.proofs.Births.{split_at-more, split_at-put}
use Rattle.laws_session.proofs.Unsplit.{same_split}
use Rattle.laws_session.proofs.Effects.{cursor_at-more, given_at-more, given_at-put, given_at-none, given_at-fresh, puts_since-say, puts_since-say_other, puts_since-put, puts_since-put_other, puts_since-take, puts_since-back, out_at-say, out_at-take, out_at-take_other, out_at-put, out_at-put_other, out_at-back, out_at-back_other}
use Rattle.std.proofs.Common.{append-nil}
use Rattle.std.proofs.Common.{Bool}
use Rattle.resolver_model.specs.Legal.{Follows}
use Rattle.resolver_model.specs.Learning.{LearnsUpwards}
use Rattle.search_core.specs.Kept.{Log, with_kept_entry, with_entry_and_room, IsCounted, IsLedger}
use Rattle.search_core.proofs.Kept.{one_changed, IsKept-take, IsKept-back, IsKept-put, IsKept-say}

-- places without a way at the end change nothing
wider : (ways : List (Option By)) (count n : ℕ) → get_or (ways ++ replicate count None) n None ≡ get_or ways n None
wider [] count n = empty count n
  where
    empty : (k m : ℕ) → get_or (replicate {A = Option By} k None) m None ≡ None
    empty zero m = refl
    empty (suc k) zero = refl
    empty (suc k) (suc m) = empty k m
wider (w ∷ ways) count zero = refl
wider (w ∷ ways) count (suc n) = wider ways count n

pub IsCounted-wider : (s : Setting) (history : History) (cursor : ℕ) (puts : List ℕ) (costs : List (List ℕ)) (ways : List (Option By)) (count : ℕ) → IsCounted s history cursor puts costs ways → IsCounted s history cursor puts costs (ways ++ replicate count None)
IsCounted-wider s history cursor puts costs ways count c = record {
  cursor_is = c.cursor_is;
  puts_all = c.puts_all;
  puts_are = c.puts_are;
  costs_are = c.costs_are;
  ways_are = λ leaf. wider ways count leaf ∙ c.ways_are leaf;
  ways_all = λ who leaf out. let low = c.ways_all who leaf out in let size = length-append ways (replicate {A = Option By} count None) in omega (arith, low, size);
}

-- A leaf is taken that has a place.
pub IsCounted-take : (s : Setting) (history : History) (cursor : ℕ) (puts : List ℕ) (costs : List (List ℕ)) (ways : List (Option By)) (actor leaf : ℕ) → IsCounted s history cursor puts costs ways → leaf < length ways
    → IsCounted s (history ++ Take actor leaf ∷ []) cursor puts costs ways
IsCounted-take s history cursor puts costs ways actor leaf c room = record {
  cursor_is = c.cursor_is ∙ sym (cursor_at-more history (Take actor leaf));
  puts_all = c.puts_all;
  puts_are = λ who lt. c.puts_are who lt ∙ sym (puts_since-take who history actor leaf);
  costs_are = c.costs_are ∙ ap (map (cost s.table)) (sym (given_at-more history (Take actor leaf) ∙ append-nil (given_at history)));
  ways_are = λ n. c.ways_are n ∙ sym (split_at-more history (Take actor leaf) n);
  ways_all = λ who n out.
      elim (cases_eq actor who) as (λ _. n < length ways) [
        | inl e ↦
            let own : Some leaf ≡ Some n = sym (out_at-take history actor leaf) ∙ ap (λ w. out_at w (history ++ Take actor leaf ∷ [])) e ∙ out in
            let is : leaf ≡ n = cc in
            omega (arith, is, room)
        | inr apart ↦ c.ways_all who n (sym (out_at-take_other who history actor leaf apart) ∙ out)
      ];
}

pub IsCounted-back : (s : Setting) (history : History) (cursor : ℕ) (puts : List ℕ) (costs : List (List ℕ)) (ways : List (Option By)) (actor leaf : ℕ) → IsCounted s history cursor puts costs ways
    → IsCounted s (history ++ Back actor leaf ∷ []) cursor puts costs ways
IsCounted-back s history cursor puts costs ways actor leaf c = record {
  cursor_is = c.cursor_is ∙ sym (cursor_at-more history (Back actor leaf));
  puts_all = c.puts_all;
  puts_are = λ who lt. c.puts_are who lt ∙ sym (puts_since-back who history actor leaf);
  costs_are = c.costs_are ∙ ap (map (cost s.table)) (sym (given_at-more history (Back actor leaf) ∙ append-nil (given_at history)));
  ways_are = λ n. c.ways_are n ∙ sym (split_at-more history (Back actor leaf) n);
  ways_all = λ who n out.
      elim (cases_eq actor who) as (λ _. n < length ways) [
        | inl e ↦ let own : None ≡ Some n = sym (out_at-back history actor leaf) ∙ ap (λ w. out_at w (history ++ Back actor leaf ∷ [])) e ∙ out in absurd (cc)
        | inr apart ↦ c.ways_all who n (sym (out_at-back_other who history actor leaf apart) ∙ out)
      ];
}

-- A leaf that is out is split.
pub IsCounted-put : (s : Setting) (history : History) (cursor : ℕ) (puts : List ℕ) (costs : List (List ℕ)) (ways : List (Option By)) (actor leaf steps : ℕ) (by : By) (learned : List Line) → IsCounted s history cursor puts costs ways
    → actor < s.actors → out_at actor history ≡ Some leaf → steps ≡ puts_since actor history
    → IsCounted s (history ++ Put actor leaf by learned ∷ []) cursor (set puts actor (steps + 1)) costs (set ways leaf (Some by))
IsCounted-put s history cursor puts costs ways actor leaf steps by learned c low out are =
    let now = history ++ Put actor leaf by learned ∷ [] in
    let room = c.ways_all actor leaf out in
    record {
      cursor_is = c.cursor_is ∙ sym (cursor_at-more history (Put actor leaf by learned));
      puts_all = length-set puts actor (steps + 1) ∙ c.puts_all;
      puts_are = one_changed 0 (λ who. puts_since who history) (λ who. puts_since who now) puts s.actors actor (steps + 1) c.puts_all low c.puts_are (puts_since-put history actor leaf by learned ∙ ap (λ n. n + 1) (sym are)) (λ who apart. puts_since-put_other who history actor leaf by learned apart);
      costs_are = c.costs_are ∙ ap (map (cost s.table)) (sym (given_at-put history actor leaf by learned));
      ways_are = λ n.
          elim (cases_eq leaf n) as (λ _. get_or (set ways leaf (Some by)) n None ≡ split_at now n) [
            | inl e ↦ ap (λ m. get_or (set ways leaf (Some by)) m None) (sym e) ∙ get_or-set_same ways leaf (Some by) None room ∙ sym (split_at-put history actor leaf by learned) ∙ ap (split_at now) e
            | inr apart ↦ get_or-set_other ways leaf n (Some by) None (λ e. apart (sym e)) ∙ c.ways_are n ∙ sym (same_split history actor leaf n by learned apart)
          ];
      ways_all = λ who n there.
          let size : length (set ways leaf (Some by)) ≡ length ways = length-set ways leaf (Some by) in
          elim (cases_eq actor who) as (λ _. n < length (set ways leaf (Some by))) [
            | inl e ↦ let own : None ≡ Some n = sym (out_at-put history actor leaf by learned) ∙ ap (λ w. out_at w now) e ∙ there in absurd (cc)
            | inr apart ↦ let lt = c.ways_all who n (sym (out_at-put_other who history actor leaf by learned apart) ∙ there) in omega (arith, lt, size)
          ];
    }

-- An answer begins the count of its actor's steps anew.
answered : (s : Setting) (history : History) (cursor : ℕ) (puts : List ℕ) (costs more : List (List ℕ)) (ways : List (Option By)) (actor : ℕ) (command : Command) (reply : Reply) → IsCounted s history cursor puts costs ways → actor < s.actors
    → more ≡ map (cost s.table) (given_at (history ++ Say actor command reply ∷ []))
    → IsCounted s (history ++ Say actor command reply ∷ []) (unwrap_or (shown reply) cursor) (set puts actor 0) more ways
answered s history cursor puts costs more ways actor command reply c low are =
    let now = history ++ Say actor command reply ∷ [] in
    record {
      cursor_is = ap (λ n. unwrap_or (shown reply) n) c.cursor_is ∙ sym (cursor_at-more history (Say actor command reply));
      puts_all = length-set puts actor 0 ∙ c.puts_all;
      puts_are = one_changed 0 (λ who. puts_since who history) (λ who. puts_since who now) puts s.actors actor 0 c.puts_all low c.puts_are (puts_since-say history actor command reply) (λ who apart. puts_since-say_other who history actor command reply apart);
      costs_are = are;
      ways_are = λ n. c.ways_are n ∙ sym (split_at-more history (Say actor command reply) n);
      ways_all = λ who n out. c.ways_all who n (sym (out_at-say who history actor command reply) ∙ out);
    }

pub IsCounted-say : (s : Setting) (history : History) (cursor : ℕ) (puts : List ℕ) (costs : List (List ℕ)) (ways : List (Option By)) (actor : ℕ) (command : Command) (reply : Reply) → IsCounted s history cursor puts costs ways → actor < s.actors → delivered reply ≡ None
    → IsCounted s (history ++ Say actor command reply ∷ []) (unwrap_or (shown reply) cursor) (set puts actor 0) costs ways
IsCounted-say s history cursor puts costs ways actor command reply c low none =
    answered s history cursor puts costs costs ways actor command reply c low (c.costs_are ∙ ap (map (cost s.table)) (sym (given_at-none history actor command reply none)))

pub IsCounted-fresh : (s : Setting) (history : History) (cursor : ℕ) (puts : List ℕ) (costs : List (List ℕ)) (ways : List (Option By)) (actor number : ℕ) (set_is dear : List ℕ) → IsCounted s history cursor puts costs ways → actor < s.actors → dear ≡ cost s.table set_is
    → IsCounted s (history ++ Say actor Next (Solution number set_is true) ∷ []) number (set puts actor 0) (costs ++ dear ∷ []) ways
IsCounted-fresh s history cursor puts costs ways actor number set_is dear c low is =
    answered s history cursor puts costs (costs ++ dear ∷ []) ways actor Next (Solution number set_is true) c low
    (ap (λ cs. cs ++ dear ∷ []) c.costs_are ∙ ap (λ x. map (cost s.table) (given_at history) ++ x ∷ []) is ∙ sym (costs_more (given_at history)) ∙ ap (map (cost s.table)) (sym (given_at-fresh history actor Next number set_is)))
  where
    costs_more : (sets : List (List ℕ)) → map (cost s.table) (sets ++ set_is ∷ []) ≡ map (cost s.table) sets ++ cost s.table set_is ∷ []
    costs_more [] = refl
    costs_more (x ∷ sets) = ap (λ cs. cost s.table x ∷ cs) (costs_more sets)

-- The cost that is kept for a delivery.
pub cost_kept : (s : Setting) (history : History) (cursor : ℕ) (puts : List ℕ) (costs : List (List ℕ)) (ways : List (Option By)) (place : ℕ) (d : List ℕ) → IsCounted s history cursor puts costs ways → place < delivery_count history
    → get_or costs place d ≡ cost s.table (get_or (given_at history) place [])
cost_kept s history cursor puts costs ways place d c lt = ap (λ cs. get_or cs place d) c.costs_are ∙ at (given_at history) place lt
  where
    at : (sets : List (List ℕ)) (n : ℕ) → n < length sets → get_or (map (cost s.table) sets) n d ≡ cost s.table (get_or sets n [])
    at [] n h = absurd (omega arith)
    at (x ∷ sets) zero h = refl
    at (x ∷ sets) (suc n) h = at sets n (omega arith)

pub costs_all : (s : Setting) (history : History) (cursor : ℕ) (puts : List ℕ) (costs : List (List ℕ)) (ways : List (Option By)) → IsCounted s history cursor puts costs ways → length costs ≡ delivery_count history
costs_all s history cursor puts costs ways c = ap length c.costs_are ∙ size (given_at history)
  where
    size : (sets : List (List ℕ)) → length (map (cost s.table) sets) ≡ length sets
    size [] = refl
    size (x ∷ sets) = ap suc (size sets)

-- What a ledger keeps, after one more entry.
pub IsLedger-wider : (s : Setting) (log : Log) (rooms : List Bool) (outs : List (Option ℕ)) (cursor : ℕ) (puts : List ℕ) (costs : List (List ℕ)) (ways now : List (Option By)) → IsLedger s log rooms outs cursor puts costs ways → (count : ℕ) × (now ≡ ways ++ replicate count None)
    → IsLedger s log rooms outs cursor puts costs now
IsLedger-wider s log rooms outs cursor puts costs ways now l w =
    let W : List (Option By) → Type 0 = λ x. IsLedger s log rooms outs cursor puts costs x in
    subst W (sym w.1) (record { kept = l.kept; counted = IsCounted-wider s log.entries cursor puts costs ways w.0 l.counted })

pub IsLedger-take : (s : Setting) (log : Log) (rooms : List Bool) (outs : List (Option ℕ)) (cursor : ℕ) (puts : List ℕ) (costs : List (List ℕ)) (ways : List (Option By)) (actor leaf : ℕ) → IsLedger s log rooms outs cursor puts costs ways → Follows s log.entries (Take actor leaf) → leaf < length ways
    → IsLedger s (with_entry_and_room log (Take actor leaf)) rooms (set outs actor (Some leaf)) cursor puts costs ways
IsLedger-take s log rooms outs cursor puts costs ways actor leaf l next room = record { kept = IsKept-take s log rooms outs actor leaf l.kept next; counted = IsCounted-take s log.entries cursor puts costs ways actor leaf l.counted room }

pub IsLedger-back : (s : Setting) (log : Log) (rooms : List Bool) (outs : List (Option ℕ)) (cursor : ℕ) (puts : List ℕ) (costs : List (List ℕ)) (ways : List (Option By)) (actor leaf : ℕ) → IsLedger s log rooms outs cursor puts costs ways → out_at actor log.entries ≡ Some leaf
    → IsLedger s (with_kept_entry log (Back actor leaf)) rooms (set outs actor None) cursor puts costs ways
IsLedger-back s log rooms outs cursor puts costs ways actor leaf l out = record { kept = IsKept-back s log rooms outs actor leaf l.kept out; counted = IsCounted-back s log.entries cursor puts costs ways actor leaf l.counted }

pub IsLedger-put : (s : Setting) (log : Log) (rooms : List Bool) (outs : List (Option ℕ)) (cursor : ℕ) (puts : List ℕ) (costs : List (List ℕ)) (ways : List (Option By)) (actor leaf steps : ℕ) (by : By) (learned : List Line) → IsLedger s log rooms outs cursor puts costs ways
    → Follows s log.entries (Put actor leaf by learned) → LearnsUpwards s log.entries (Put actor leaf by learned) → steps ≡ puts_since actor log.entries
    → IsLedger s (with_kept_entry log (Put actor leaf by learned)) rooms (set outs actor None) cursor (set puts actor (steps + 1)) costs (set ways leaf (Some by))
IsLedger-put s log rooms outs cursor puts costs ways actor leaf steps by learned l next learns are = record {
  kept = IsKept-put s log rooms outs actor leaf by learned l.kept next learns;
  counted = IsCounted-put s log.entries cursor puts costs ways actor leaf steps by learned l.counted next.0 next.1 are;
}

pub IsLedger-say : (s : Setting) (log : Log) (rooms : List Bool) (outs : List (Option ℕ)) (cursor : ℕ) (puts : List ℕ) (costs : List (List ℕ)) (ways : List (Option By)) (actor : ℕ) (command : Command) (reply : Reply) → IsLedger s log rooms outs cursor puts costs ways
    → Follows s log.entries (Say actor command reply) → get_or rooms actor false ≡ true → delivered reply ≡ None
    → IsLedger s (with_kept_entry log (Say actor command reply)) (set rooms actor false) outs (unwrap_or (shown reply) cursor) (set puts actor 0) costs ways
IsLedger-say s log rooms outs cursor puts costs ways actor command reply l next room none = record {
  kept = IsKept-say s log rooms outs actor command reply l.kept next room;
  counted = IsCounted-say s log.entries cursor puts costs ways actor command reply l.counted next.0 none;
}

pub IsLedger-fresh : (s : Setting) (log : Log) (rooms : List Bool) (outs : List (Option ℕ)) (cursor : ℕ) (puts : List ℕ) (costs : List (List ℕ)) (ways : List (Option By)) (actor number : ℕ) (set_is dear : List ℕ) → IsLedger s log rooms outs cursor puts costs ways
    → Follows s log.entries (Say actor Next (Solution number set_is true)) → get_or rooms actor false ≡ true → dear ≡ cost s.table set_is
    → IsLedger s (with_kept_entry log (Say actor Next (Solution number set_is true))) (set rooms actor false) outs number (set puts actor 0) (costs ++ dear ∷ []) ways
IsLedger-fresh s log rooms outs cursor puts costs ways actor number set_is dear l next room is = record {
  kept = IsKept-say s log rooms outs actor Next (Solution number set_is true) l.kept next room;
  counted = IsCounted-fresh s log.entries cursor puts costs ways actor number set_is dear l.counted next.0 is;
}
