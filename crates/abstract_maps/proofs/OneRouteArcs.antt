-- The laws of arcs on the row of one route, from those of the two ends of a session.
use Rattle.std.proofs.Common.{ℕ, ◌≡◌, ◌≤◌, inl, inr, true, false, length, Option, Some, None, IfSome, option_and_then, ap, sym, subst, ◌∙◌, refl}
use Rattle.std.specs.Option.{is_some}
use Rattle.net_types.specs.Routes.{is_on}
use Rattle.net_types.specs.declared.arcs.Arc.{Arc}
use Rattle.net_types.specs.declared.routes.Route.{Route}
use Rattle.net_types.specs.Arcs.{is_session}
use Rattle.net_types.specs.NetFacts.{IsNet}
use Rattle.net_types.specs.NetValue.{NetValue}
use Rattle.net_types.specs.PrefixValue.{PrefixValue}
use Rattle.abstract_route.specs.Fits.{exact_row}
use Rattle.abstract_route.specs.Rows.{IsRow, inhabited}
use Rattle.concrete_algebra.specs.Carrying.{carry_gives, import_gives}
use Rattle.abstract_maps.specs.LocalRow.{exact_or_bottom}
use Rattle.abstract_maps.specs.OneRoute.{Misses, least_row}
use Rattle.abstract_maps.specs.Transfer.{longest, opens, passes, transfer}
use Rattle.abstract_maps.proofs.WordLemmas.{HasWords, words_of}
use Rattle.abstract_maps.proofs.TransferLemmas.{as_sent, sends, takes}
use Rattle.abstract_maps.proofs.ExactLemmas.{between_exact, comes, opens_exact, passes_exact}
use Rattle.abstract_maps.proofs.ArcLemmas.{IsSession, kind}

words_at : (t : Route) → IsRow (least_row t) → HasWords (exact_row (as_sent t))
words_at t i = words_of (least_row t) i

carried_is : (net : NetValue) (prefix : PrefixValue) (arc : Arc) (t : Route) (s : IsSession net prefix arc) → carry_gives net prefix arc t ≡ comes net prefix arc s.from s.to t
carried_is net prefix arc t s = ap (λ (o : Option Route). option_and_then (λ sent. import_gives net prefix arc sent) o) (s.export_is t) ∙ go (sends net prefix s.from t) where
  go : (o : Option Route) → option_and_then (λ sent. import_gives net prefix arc sent) o ≡ option_and_then (λ sent. takes net prefix arc s.to sent) o
  go None = refl
  go (Some sent) = s.import_is sent

missed : (net : NetValue) (prefix : PrefixValue) (arc : Arc) (t : Route) (s : IsSession net prefix arc) → Misses net arc t → is_on s.to.router t.path ≡ false
missed net prefix arc t s m = subst (λ (o : Option ℕ). IfSome o (λ u. is_on u t.path ≡ false)) s.receiver_is m

pub transfer_exact : (net : NetValue) (prefix : PrefixValue) (arc : Arc) (t : Route) → IsNet net → IsRow (least_row t) → is_session net arc ≡ true → IfSome (carry_gives net prefix arc t) (λ carried. length carried.path ≤ longest net) → transfer net prefix arc (least_row t) ≡ exact_or_bottom (carry_gives net prefix arc t)
transfer_exact net prefix arc t valid words session short = elim (kind net prefix arc valid) [
  | inl s ↦
      let is = carried_is net prefix arc t s in
      s.transfer_is (exact_row (as_sent t)) ∙
      between_exact net prefix arc s.from s.to t valid s.from_in s.to_in (words_at t words) (subst (λ (o : Option Route). IfSome o (λ carried. length carried.path ≤ longest net)) is short) ∙
      ap exact_or_bottom (sym is)
  | inr n ↦ absurd (let a = n.is in let b = session in cc)
]

pub passes_is_exact : (net : NetValue) (prefix : PrefixValue) (arc : Arc) (t : Route) → IsNet net → IsRow (least_row t) → is_session net arc ≡ true → Misses net arc t → passes net prefix arc (least_row t) ≡ is_some (carry_gives net prefix arc t)
passes_is_exact net prefix arc t valid words session misses = elim (kind net prefix arc valid) [
  | inl s ↦
      s.passes_is (exact_row (as_sent t)) ∙
      passes_exact net prefix arc s.from s.to t valid s.from_in s.to_in s.apart (words_at t words) (missed net prefix arc t s misses) ∙
      ap is_some (sym (carried_is net prefix arc t s))
  | inr n ↦ absurd (let a = n.is in let b = session in cc)
]

pub open_is_exact : (net : NetValue) (prefix : PrefixValue) (arc : Arc) (t : Route) → IsNet net → IsRow (least_row t) → is_session net arc ≡ true → Misses net arc t → opens net prefix arc (least_row t) ≡ is_some (carry_gives net prefix arc t)
open_is_exact net prefix arc t valid words session misses = elim (kind net prefix arc valid) [
  | inl s ↦
      ap inhabited (s.free_is (exact_row (as_sent t))) ∙
      opens_exact net prefix arc s.from s.to t valid s.from_in s.to_in s.apart (words_at t words) (missed net prefix arc t s misses) ∙
      ap is_some (sym (carried_is net prefix arc t s))
  | inr n ↦ absurd (let a = n.is in let b = session in cc)
]
