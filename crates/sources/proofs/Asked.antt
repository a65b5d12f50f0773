-- Several files that are asked for one after the other.
use Rattle.std.proofs.Common.{inl, inr, ◌≡◌, ◌≢◌, ℕ, Bool, true, false, List, [], ◌∷◌, ◌++◌, Option, Some, None, refl, sym, ap, subst, ◌∙◌, append_assoc}
use Rattle.std.specs.Option.{unwrap_or}
use Rattle.std.specs.Str.{bytes_eq}
use Rattle.std.proofs.lemmas.Slice.Eq.{bytes_eq-Decides}
use Rattle.lists.proofs.Members.{Member, Member-append_left, Member-append_right, Member-append_cases}
use Rattle.apt_base.specs.Faults.{IsLater, CountsOnly, ByName, faults_of}
use Rattle.apt_base.proofs.Counts.{IsLater-refl, IsLater-trans, Rose-before}
use Rattle.problem.specs.declared.limits.Which.TheVariants.{FileBytes}
use Rattle.resolve_words.specs.Given.{Given}
use Rattle.run_status.specs.declared.Status.{Status}
use Rattle.run_status.specs.declared.Status.TheVariants.{ReadFault, NoMemory, Limit}
use Rattle.sources.specs.Sources.{IsRead, IsReadIf, AreUniverse, listed, universe_names, CountsAmong, IsUnread, IsCut, AreUnread}

pub among_none : (asked : ByName ℕ) → CountsAmong [] asked asked
among_none asked = record { later = λ name. IsLater-refl (faults_of asked name); others = λ _ _. refl }

later_at : (name : List ℕ) (a b : ByName ℕ) → CountsOnly name a b → (other : List ℕ) (same : Bool) → bytes_eq other name ≡ same → IsLater (faults_of a other) (faults_of b other)
later_at name a b only other true e =
    let here : other ≡ name = (bytes_eq-Decides other name).0 e in
    subst (λ n. IsLater (faults_of a n) (faults_of b n)) (sym here) only.later
later_at name a b only other false e =
    let apart : other ≢ name = λ same. let yes = (bytes_eq-Decides other name).1 same in absurd (cc) in
    subst (λ found. IsLater (faults_of a other) (unwrap_or found 0)) (sym (only.others other apart)) (IsLater-refl (faults_of a other))

pub among_one : (name : List ℕ) (a b : ByName ℕ) → CountsOnly name a b → CountsAmong (name ∷ []) a b
among_one name a b only = record { later = λ other. later_at name a b only other (bytes_eq other name) refl; others = λ other apart. only.others other (λ same. apart (inl same)) }

pub among_both : (names more : List (List ℕ)) (a b c : ByName ℕ) → CountsAmong names a b → CountsAmong more b c → CountsAmong (names ++ more) a c
among_both names more a b c first second = record {
  later = λ name. IsLater-trans (faults_of a name) (faults_of b name) (faults_of c name) (first.later name) (second.later name);
  others = λ name apart. second.others name (λ there. apart (Member-append_right name names more there)) ∙ first.others name (λ there. apart (Member-append_left name names more there));
}

pub among_front : (names more : List (List ℕ)) (a b : ByName ℕ) → CountsAmong names a b → CountsAmong (names ++ more) a b
among_front names more a b first = record { later = first.later; others = λ name apart. first.others name (λ there. apart (Member-append_left name names more there)) }

-- each of these files was read
abbrev pub AreTold : Option (ByName (List ℕ)) → List (List ℕ) → Type 0
AreTold files names = (name : List ℕ) → Member name names → (text : List ℕ) × IsRead files name text

pub told_if : (files : Option (ByName (List ℕ))) (name : Option (List ℕ)) (text : List ℕ) → IsReadIf files name text → AreTold files (listed name)
told_if files None text read other there = absurd there
told_if files (Some name) text read other there =
    elim there as (λ _. (t : List ℕ) × IsRead files other t) [ inl same ↦ (text, subst (λ n. IsRead files n text) (sym same) read) | inr none ↦ absurd none ]

pub told_both : (files : Option (ByName (List ℕ))) (names more : List (List ℕ)) → AreTold files names → AreTold files more → AreTold files (names ++ more)
told_both files names more first second other there =
    elim (Member-append_cases other names more there) as (λ _. (t : List ℕ) × IsRead files other t) [ inl here ↦ first other here | inr behind ↦ second other behind ]

pub told_universe : (files : Option (ByName (List ℕ))) (g : Given) (status packages : List ℕ) (sample : Option (ℕ × ℕ)) → AreUniverse files g status packages sample → AreTold files (universe_names g sample)
told_universe files g status packages None read = told_both files (listed g.status) (listed g.packages) (told_if files g.status status read.0) (told_if files g.packages packages read.1)
told_universe files g status packages (Some sample) read = λ other there. absurd there

-- a cause behind earlier calls is one of all of them
unread_before : (files : Option (ByName (List ℕ))) (a b c : ByName ℕ) (name : List ℕ) (status : Status) → IsLater (faults_of a name) (faults_of b name) → IsUnread files b c name status → IsUnread files a c name status
unread_before files a b c name ReadFault later unread = Rose-before (faults_of a name) (faults_of b name) (faults_of c name) later unread
unread_before files a b c name (Limit FileBytes count) later unread = unread
unread_before files a b c name NoMemory later unread = tt
unread_before files a b c name status later unread = absurd unread

pub cut_one : (files : Option (ByName (List ℕ))) (a b : ByName ℕ) (name : List ℕ) (status : Status) → CountsOnly name a b → IsUnread files a b name status → IsCut files a b (name ∷ []) status
cut_one files a b name status only unread = record {
  read = [];
  name = name;
  unasked = [];
  order = refl;
  texts = λ other there. absurd there;
  cause = unread;
  counts = among_one name a b only;
}

pub cut_front : (files : Option (ByName (List ℕ))) (a b : ByName ℕ) (names more : List (List ℕ)) (status : Status) → IsCut files a b names status → IsCut files a b (names ++ more) status
cut_front files a b names more status cut = record {
  read = cut.read;
  name = cut.name;
  unasked = cut.unasked ++ more;
  order = ap (λ n. n ++ more) cut.order ∙ append_assoc cut.read (cut.name ∷ cut.unasked) more;
  texts = cut.texts;
  cause = cut.cause;
  counts = cut.counts;
}

pub cut_behind : (files : Option (ByName (List ℕ))) (a b c : ByName ℕ) (names more : List (List ℕ)) (status : Status) → AreTold files names → CountsAmong names a b → IsCut files b c more status → IsCut files a c (names ++ more) status
cut_behind files a b c names more status told first cut = record {
  read = names ++ cut.read;
  name = cut.name;
  unasked = cut.unasked;
  order = ap (λ m. names ++ m) cut.order ∙ sym (append_assoc names cut.read (cut.name ∷ cut.unasked));
  texts = told_both files names cut.read told cut.texts;
  cause = unread_before files a b c cut.name status (first.later cut.name) cut.cause;
  counts = subst (λ n. CountsAmong n a c) (sym (append_assoc names cut.read (cut.name ∷ []))) (among_both names (cut.read ++ cut.name ∷ []) a b c first cut.counts);
}

pub unread_front : (files : Option (ByName (List ℕ))) (a b : ByName ℕ) (names more : List (List ℕ)) (status : Status) → AreUnread files a b names status → AreUnread files a b (names ++ more) status
unread_front files a b names more status unread =
    elim unread as (λ _. AreUnread files a b (names ++ more) status) [ inl none ↦ inl none | inr cut ↦ inr (cut_front files a b names more status cut) ]
