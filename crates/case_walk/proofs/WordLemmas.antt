-- The words that are known decide what a set reuses.
use Rattle.std.proofs.Common.{ℕ, ◌≡◌, ◌<◌, ◌≤◌, ◌+◌, ◌⊎◌, inl, inr, if◌then◌else◌, Bool, true, false, Option, Some, None, List as Seq, [], ◌∷◌, ◌++◌, length, arith, refl, ap, sym, subst, ◌∙◌, length-append}
use Rattle.std.proofs.lemmas.Option.{slice_get_within}
use Rattle.std.proofs.lemmas.Bool.{cases_order}
use Rattle.std.specs.List.{slice_get}
use Rattle.net_types.specs.FailSets.{holds, without}
use Rattle.net_types.specs.NetValue.{NetValue}
use Rattle.net_types.specs.PrefixValue.{PrefixValue}
use Rattle.net_types.specs.Sets.{has}
use Rattle.failure_sets.specs.SetOrder.{IsPermitted}
use Rattle.failure_sets.specs.SetList.{place_of}
use Rattle.failure_sets.proofs.ListLemmas.{get_front, get_back}
use Rattle.failure_sets.proofs.LawLemmas.{fewer_come_earlier}
use Rattle.property_book.specs.declared.property.Property.{Property}
use Rattle.property_book.specs.declared.verdict.Verdict.{Verdict}
use Rattle.case_walk.specs.declared.walk.Sweep.{Sweep}
use Rattle.case_walk.specs.Analysis.{Analysis, IdleStays, is_idle}
use Rattle.case_walk.specs.Representatives.{spare, is_own, representative}
use Rattle.case_walk.specs.Marks.{AreMarkedIf}
use Rattle.case_walk.specs.Words.{word_of, has_in, spare_in, AreWords, IsStep}
use Rattle.case_walk.proofs.CountLemmas.{got_inside, one_at_a_place}
use Rattle.case_walk.proofs.FindLemmas.{find_same}
use Rattle.case_walk.proofs.SetLemmas.{without_gone}
use Rattle.case_walk.proofs.ReuseLemmas.{is_spare, not_own_with_spare, own_without_spare, representative_on, representative_stays, representatives_share}

-- a word is right at the links outside its set
has_of_word : (idle : Seq ℕ → ℕ) (links : ℕ) (set : Seq ℕ) (o : Option ℕ) (word link : ℕ) → IdleStays links idle → IsPermitted links 3 set →
    o ≡ Some word → word ≡ idle (representative idle set) → holds set link ≡ false → has_in link o ≡ is_idle idle set link
has_of_word idle links set o word link law p is known out =
    let a = representatives_share links 3 idle set law (omega arith) p in
    ap (has_in link) is ∙ ap (λ (w : ℕ). has w link) known ∙ sym (a.outside link out)

-- the words find the same spare link
pub spare_agrees : (idle : Seq ℕ → ℕ) (links : ℕ) (words set : Seq ℕ) →
    IdleStays links idle → AreWords idle links words → IsPermitted links 3 set → place_of links set ≤ length words → spare_in links words set ≡ spare idle set
unfolding spare_in
spare_agrees idle links words set law known p long =
    find_same (λ (l : ℕ). has_in l (word_of links words (without set l))) (λ (l : ℕ). is_idle idle (without set l) l) set (λ link inside. (
    let f = fewer_come_earlier links 3 set link (omega arith) p inside in
    let e = f.1 in
    go link (omega arith) f.0 (slice_get words (place_of links (without set link))) refl)) where
      go : (link : ℕ) → place_of links (without set link) < length words → IsPermitted links 3 (without set link) → (o : Option ℕ) → slice_get words (place_of links (without set link)) ≡ o →
          has_in link (slice_get words (place_of links (without set link))) ≡ is_idle idle (without set link) link
      go link less q None none = absurd (got_inside words (place_of links (without set link)) none less)
      go link less q (Some word) some =
          has_of_word idle links (without set link) (slice_get words (place_of links (without set link))) word link law q some (known.word (without set link) word q some) (without_gone set link)

-- a set for which the words find a spare link
pub record Reuses (idle : Seq ℕ → ℕ) (links : ℕ) (words set : Seq ℕ) (link : ℕ) : Type 0 where
  pub permitted : IsPermitted links 3 (without set link)
  pub within : place_of links (without set link) < length words
  pub own : false ≡ is_own idle set
  pub word : (word : ℕ) → word_of links words (without set link) ≡ Some word → word ≡ idle (representative idle set)

pub reuses : (idle : Seq ℕ → ℕ) (links : ℕ) (words set : Seq ℕ) (link : ℕ) →
    IdleStays links idle → AreWords idle links words → IsPermitted links 3 set → place_of links set ≡ length words → Some link ≡ spare_in links words set → Reuses idle links words set link
reuses idle links words set link law known p place found =
    let long : place_of links set ≤ length words = omega arith in
    let e : spare idle set ≡ Some link = sym (spare_agrees idle links words set law known p long) ∙ sym found in
    let s = is_spare idle set link e in
    let f = fewer_come_earlier links 3 set link (omega arith) p s.inside in
    let less = f.1 in
    record {
      permitted = f.0;
      within = omega arith;
      own = sym (not_own_with_spare idle set link e);
      word = λ word is. known.word (without set link) word f.0 is ∙ ap idle (sym (representative_on idle set link e));
    }

-- a set for which they find none
pub record Solves (idle : Seq ℕ → ℕ) (set : Seq ℕ) : Type 0 where
  pub own : true ≡ is_own idle set
  pub itself : representative idle set ≡ set

pub solves : (idle : Seq ℕ → ℕ) (links : ℕ) (words set : Seq ℕ) →
    IdleStays links idle → AreWords idle links words → IsPermitted links 3 set → place_of links set ≡ length words → None ≡ spare_in links words set → Solves idle set
solves idle links words set law known p place found =
    let none = sym (spare_agrees idle links words set law known p (omega arith)) ∙ sym found in
    record { own = sym (own_without_spare idle set none); itself = representative_stays idle set none }

-- one word more
pub words_more : (idle : Seq ℕ → ℕ) (links : ℕ) (words set : Seq ℕ) (word : ℕ) →
    AreWords idle links words → IsPermitted links 3 set → place_of links set ≡ length words → word ≡ idle (representative idle set) → AreWords idle links (words ++ word ∷ [])
words_more idle links words set word known p place right = record { word = λ other found q is. go other found q is (cases_order (place_of links other) (length words)) } where
  go : (other : Seq ℕ) (found : ℕ) → IsPermitted links 3 other → word_of links (words ++ word ∷ []) other ≡ Some found →
      (place_of links other ≡ length words) ⊎ ((place_of links other < length words) ⊎ (length words < place_of links other)) → found ≡ idle (representative idle other)
  go other found q is (inl here) =
      let same : set ≡ other = one_at_a_place links set other p q (place ∙ sym here) in
      let e : Some word ≡ Some found = sym (get_back words (word ∷ []) (place_of links other) 0 (omega arith)) ∙ is in
      let f : word ≡ found = cc in
      sym f ∙ right ∙ ap (λ (s : Seq ℕ). idle (representative idle s)) same
  go other found q is (inr (inl before)) = known.word other found q (sym (get_front words (word ∷ []) (place_of links other) before) ∙ is)
  go other found q is (inr (inr past)) =
      let w = slice_get_within (words ++ word ∷ []) (place_of links other) found is in
      let l = length-append words (word ∷ []) in
      absurd (omega arith)

-- the step that the code makes
pub step_made : (net : NetValue) (analysis : Analysis) (links : ℕ) (prefix : PrefixValue) (book : Seq Property) (set : Seq ℕ) (old : Sweep) (word : ℕ) (fresh : Bool) (words : Seq ℕ) (solved : ℕ) (olds news : Seq Verdict) →
    AreWords (analysis.idle prefix) links old.words → IsPermitted links 3 set → place_of links set ≡ length old.words →
    word ≡ analysis.idle prefix (representative (analysis.idle prefix) set) → fresh ≡ is_own (analysis.idle prefix) set →
    words ≡ old.words ++ word ∷ [] → solved ≡ old.solved + (if fresh then 1 else 0) → AreMarkedIf net analysis prefix set fresh book olds news →
    IsStep net analysis links prefix book set old (record { words = words; solved = solved }) olds news
step_made net analysis links prefix book set old word fresh words solved olds news known p place right own made more told = record {
  words = subst (λ (ws : Seq ℕ). AreWords (analysis.idle prefix) links ws) (sym made) (words_more (analysis.idle prefix) links old.words set word known p place right);
  long = ap length made ∙ length-append old.words (word ∷ []);
  solved = more ∙ ap (λ (b : Bool). old.solved + (if b then 1 else 0)) own;
  verdicts = subst (λ (b : Bool). AreMarkedIf net analysis prefix set b book olds news) own told;
}
