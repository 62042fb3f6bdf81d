-- What a path has behind a folder, as an equation of texts.
use Rattle.std.proofs.Common.{ℕ, ◌≡◌, ◌≢◌, ◌==◌, length, drop, MatchOption, option_copied, Bor, Bool, true, false, List, [], ◌∷◌, ◌++◌, Option, Some, None, refl, sym, ap, ◌∙◌, append_assoc}
use Rattle.std.specs.Prelude.{if◌then◌else◌}
use Rattle.std.proofs.Math.Seq.{drop-append_seam}
use Rattle.std.proofs.lemmas.Bool.{eqb-true, eq-eqb}
use Rattle.std.proofs.lemmas.Option.{same_Some}
use Rattle.outside.specs.Content.{behind, below, path_of}

-- a text is its beginning and what stands behind that
pub behind-some : (p t x : List ℕ) → behind p t ≡ Some x → t ≡ p ++ x
behind-some [] t x e = same_Some t x e
behind-some (b ∷ p) [] x e = cc
behind-some (b ∷ p) (c ∷ t) x e = go (behind-some p t x) (c == b) refl e where
  go : (behind p t ≡ Some x → t ≡ p ++ x) → (v : Bool) → (c == b) ≡ v → (if v then behind p t else None) ≡ Some x → c ∷ t ≡ b ∷ (p ++ x)
  go rest true is e = let head = eqb-true c b is in let tail = rest e in cc
  go rest false is e = cc

pub behind-append : (p x : List ℕ) → behind p (p ++ x) ≡ Some x
behind-append [] x = refl
behind-append (b ∷ p) x = rw (eq-eqb b b refl) (behind-append p x)

pub behind-none : (p t : List ℕ) → ((x : List ℕ) → t ≡ p ++ x → ⊥) → behind p t ≡ None
behind-none p t h = go (behind p t) refl where
  go : (o : Option (List ℕ)) → behind p t ≡ o → behind p t ≡ None
  go None e = e
  go (Some x) e = absurd (h x (behind-some p t x e))

-- a folder, '/' and the rest
pub path_rest : (folder x : List ℕ) → path_of folder [] ++ x ≡ path_of folder x
path_rest folder x = append_assoc folder (47 ∷ []) x

pub below-some : (folder path x : List ℕ) → path ≡ path_of folder x → below folder path ≡ Some x
below-some folder path x e = ap (behind (path_of folder [])) (e ∙ sym (path_rest folder x)) ∙ behind-append (path_of folder []) x

pub below-is : (folder path x : List ℕ) → below folder path ≡ Some x → path ≡ path_of folder x
below-is folder path x e = behind-some (path_of folder []) path x e ∙ path_rest folder x

pub below-none : (folder path : List ℕ) → ((x : List ℕ) → path ≡ path_of folder x → ⊥) → below folder path ≡ None
below-none folder path h = behind-none (path_of folder []) path (λ x e. h x (e ∙ path_rest folder x))

-- none where the path does not begin with the folder, or the rest does not begin with '/'
pub below-no_folder : (folder path : List ℕ) → ((x : List ℕ) → path ≡ folder ++ x → ⊥) → below folder path ≡ None
below-no_folder folder path h = below-none folder path (λ x e. h (47 ∷ x) e)

-- the same by the two steps of the code: behind the folder, and then behind '/'
pub below-steps : (folder path rest : List ℕ) (r : Option (Bor (List ℕ))) → path ≡ folder ++ rest → MatchOption r ((x : List ℕ) → rest ≢ 47 ∷ x) (λ y. rest ≡ 47 ∷ y.now) → option_copied r ≡ below folder path
below-steps folder path rest None e h = sym (below-none folder path (λ x f. h x (same_rest x f))) where
  same_rest : (x : List ℕ) → path ≡ path_of folder x → rest ≡ 47 ∷ x
  same_rest x f = sym (drop-append_seam folder rest) ∙ ap (drop (length folder)) (sym e ∙ f) ∙ drop-append_seam folder (47 ∷ x)
below-steps folder path rest (Some y) e h = sym (below-some folder path y.now (e ∙ ap (λ t. folder ++ t) h))
