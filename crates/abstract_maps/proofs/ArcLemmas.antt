-- The laws of arcs, from those of the two ends of a session.
use Rattle.std.proofs.Common.{ℕ, ◌≡◌, ◌≢◌, ◌<◌, ◌≤◌, ◌⊎◌, inl, inr, Bool, true, false, length, Option, Some, None, option_and_then, slice_get, arith, ap, sym, subst, ◌∙◌, refl, cond}
use Rattle.net_types.specs.Routes.{sent_med}
use Rattle.net_types.specs.declared.arcs.Arc.{Arc}
use Rattle.net_types.specs.declared.network.End.{End}
use Rattle.net_types.specs.declared.network.Link.{Link}
use Rattle.net_types.specs.declared.routes.Route.{Route}
use Rattle.net_types.specs.Arcs.{from_end, is_session, receiver_of, to_end}
use Rattle.net_types.specs.NetFacts.{IsLink, IsNet}
use Rattle.net_types.specs.NetValue.{NetValue}
use Rattle.net_types.specs.PrefixValue.{PrefixValue}
use Rattle.abstract_route.specs.declared.rows.Row.{Row}
use Rattle.abstract_route.specs.Rows.{IsBelow, IsInhabited, IsRow, bottom, carried_row, inhabited}
use Rattle.abstract_route.specs.Fits.{Fits, IsIn}
use Rattle.abstract_route.proofs.FitLemmas.{carried_fits, carried_is_row, carried_up, fits_inhabited, inhabited_is, inhabited_up}
use Rattle.abstract_route.proofs.HeightLemmas.{bottom_below, bottom_is_row}
use Rattle.concrete_algebra.specs.Carrying.{carry_gives, export_gives, import_gives}
use Rattle.abstract_maps.specs.AbstractMap.{IsShort}
use Rattle.abstract_maps.specs.Laws.{Meets}
use Rattle.abstract_maps.specs.Transfer.{between, between_free, exported, received_free, free, gives, longest, opens, passes, passes_between, transfer}
use Rattle.abstract_maps.proofs.SetWords.{all_at}
use Rattle.abstract_maps.proofs.WordLemmas.{words_of}
use Rattle.abstract_maps.proofs.TransferLemmas.{Surely, surely_met, surely_taken, between_sound, between_sure, learned_med, sends, takes}
use Rattle.abstract_maps.proofs.GrowthLemmas.{IsUnder, under_below, under_none, between_free_grows, between_grows, between_is_row, between_either, between_short, between_under_free, imported_either, longest_small, passes_opens}

from_in : (net : NetValue) (down : Bool) (link : Link) → IsLink net.routers link → (from_end down link).router < length net.routers
from_in net false link ok = ok.low.router
from_in net true link ok = ok.high.router

to_in : (net : NetValue) (down : Bool) (link : Link) → IsLink net.routers link → (to_end down link).router < length net.routers
to_in net false link ok = ok.high.router
to_in net true link ok = ok.low.router

ends_apart : (net : NetValue) (down : Bool) (link : Link) → IsLink net.routers link → (to_end down link).router ≢ (from_end down link).router
ends_apart net false link ok = λ e. let o = ok.order in omega arith
ends_apart net true link ok = λ e. let o = ok.order in omega arith

-- what is asked of an arc, over the ends of its session
pub record IsSession (net : NetValue) (prefix : PrefixValue) (arc : Arc) : Type 0 where
  pub from : End
  pub to : End
  pub from_in : from.router < length net.routers
  pub to_in : to.router < length net.routers
  pub apart : to.router ≢ from.router
  pub transfer_is : (row : Row) → transfer net prefix arc row ≡ between net prefix from to row
  pub free_is : (row : Row) → free net prefix arc row ≡ between_free net prefix from to row
  pub passes_is : (row : Row) → passes net prefix arc row ≡ passes_between net prefix from to row
  pub export_is : (t : Route) → export_gives net prefix arc t ≡ sends net prefix from t
  pub import_is : (t : Route) → import_gives net prefix arc t ≡ takes net prefix arc to t
  pub receiver_is : receiver_of net arc ≡ Some to.router

-- of an arc without a session
pub record IsNoSession (net : NetValue) (prefix : PrefixValue) (arc : Arc) : Type 0 where
  pub is : is_session net arc ≡ false
  pub transfer_is : (row : Row) → transfer net prefix arc row ≡ bottom
  pub free_is : (row : Row) → free net prefix arc row ≡ bottom
  pub passes_is : (row : Row) → passes net prefix arc row ≡ false

pub kind : (net : NetValue) (prefix : PrefixValue) (arc : Arc) → IsNet net → (IsSession net prefix arc) ⊎ (IsNoSession net prefix arc)
unfolding transfer free passes export_gives import_gives
kind net prefix arc valid = go (slice_get net.links arc.link) refl where
  over : (link : Link) → slice_get net.links arc.link ≡ Some link → (s : Bool) → link.session ≡ s → (IsSession net prefix arc) ⊎ (IsNoSession net prefix arc)
  over link is true e = let ok = all_at (IsLink net.routers) net.links arc.link link valid.links is in inl (record {
    from = from_end arc.down link;
    to = to_end arc.down link;
    from_in = from_in net arc.down link ok;
    to_in = to_in net arc.down link ok;
    apart = ends_apart net arc.down link ok;
    transfer_is = λ row. rw (is, e) refl;
    free_is = λ row. rw (is, e) refl;
    passes_is = λ row. rw (is, e) refl;
    export_is = λ t. rw is refl;
    import_is = λ t. rw is refl;
    receiver_is = rw is refl;
  })
  over link is false e = inr (record {
    is = rw (is, e) refl;
    transfer_is = λ row. rw (is, e) refl;
    free_is = λ row. rw (is, e) refl;
    passes_is = λ row. rw (is, e) refl;
  })

  go : (o : Option Link) → slice_get net.links arc.link ≡ o → (IsSession net prefix arc) ⊎ (IsNoSession net prefix arc)
  go None is = inr (record {
    is = rw is refl;
    transfer_is = λ row. rw is refl;
    free_is = λ row. rw is refl;
    passes_is = λ row. rw is refl;
  })
  go (Some link) is = over link is link.session refl

-- ---- sound

transfer_sound_at : (net : NetValue) (prefix : PrefixValue) (arc : Arc) (row : Row) (t r : Route) → IsNet net → IsRow row → IsSession net prefix arc → IsIn t row → carry_gives net prefix arc t ≡ Some r → length r.path ≤ longest net → Fits r (transfer net prefix arc row)
transfer_sound_at net prefix arc row t r valid words s i carried short = go (export_gives net prefix arc t) refl carried where
  go : (o : Option Route) → export_gives net prefix arc t ≡ o → option_and_then (λ sent. import_gives net prefix arc sent) o ≡ Some r → Fits r (transfer net prefix arc row)
  go None is h = absurd (cc)
  go (Some sent) is h = subst (λ (x : Row). Fits r x) (sym (s.transfer_is row))
      (between_sound net prefix arc s.from s.to row t sent r valid s.from_in s.to_in words i (sym (s.export_is t) ∙ is) (sym (s.import_is sent) ∙ h) short)

pub transfer_sound : (net : NetValue) (prefix : PrefixValue) (arc : Arc) (row : Row) (sent route : Route) → IsNet net → IsRow row → is_session net arc ≡ true → IsIn sent row → carry_gives net prefix arc sent ≡ Some route → length route.path ≤ longest net → Fits route (transfer net prefix arc row)
transfer_sound net prefix arc row sent route valid words session i carried short = elim (kind net prefix arc valid) [
  | inl s ↦ transfer_sound_at net prefix arc row sent route valid words s i carried short
  | inr n ↦ absurd (let a = n.is in let b = session in cc)
]

-- the source of what is carried
carried_source : (net : NetValue) (prefix : PrefixValue) (arc : Arc) (t r : Route) → IsSession net prefix arc → carry_gives net prefix arc t ≡ Some r → sent_med r.source r.med ≡ 0
carried_source net prefix arc t r s carried = go (export_gives net prefix arc t) carried where
  go : (o : Option Route) → option_and_then (λ sent. import_gives net prefix arc sent) o ≡ Some r → sent_med r.source r.med ≡ 0
  go None h = absurd (cc)
  go (Some sent) h = learned_med net prefix arc s.to sent r (sym (s.import_is sent) ∙ h)

pub gives_sound : (net : NetValue) (prefix : PrefixValue) (arc : Arc) (row : Row) (sent route : Route) → IsNet net → IsRow row → is_session net arc ≡ true → IsIn sent row → carry_gives net prefix arc sent ≡ Some route → length route.path ≤ longest net → IsIn route (gives net prefix arc row)
gives_sound net prefix arc row sent route valid words session i carried short = elim (kind net prefix arc valid) [
  | inl s ↦
      let f = transfer_sound_at net prefix arc row sent route valid words s i carried short in
      let e = (inhabited_is (transfer net prefix arc row)).1 (fits_inhabited route (transfer net prefix arc row) f) in
      rw e (subst (λ (m : ℕ). Fits (record route { med = m }) (carried_row (transfer net prefix arc row))) (sym (carried_source net prefix arc sent route s carried)) (carried_fits route (transfer net prefix arc row) f))
  | inr n ↦ absurd (let a = n.is in let b = session in cc)
]

pub passing_is_sure : (net : NetValue) (prefix : PrefixValue) (arc : Arc) (row : Row) (sent : Route) → IsNet net → IsRow row → passes net prefix arc row ≡ true → IsIn sent row → ((route : Route) × (carry_gives net prefix arc sent ≡ Some route)) ⊎ Meets net arc sent
passing_is_sure net prefix arc row sent valid words p i = elim (kind net prefix arc valid) [
  | inl s ↦ found s (between_sure net prefix arc s.from s.to row sent valid s.from_in s.to_in s.apart words i (sym (s.passes_is row) ∙ p))
  | inr n ↦ absurd (let a = n.passes_is row in let b = p in cc)
] where
  found : (s : IsSession net prefix arc) → Surely net prefix arc s.from s.to sent → ((route : Route) × (carry_gives net prefix arc sent ≡ Some route)) ⊎ Meets net arc sent
  found s u = elim u [
    | surely_taken m r e f ↦ inl (r, (let a = s.export_is sent ∙ e in let b = s.import_is m ∙ f in rw a b))
    | surely_met on ↦ inr (s.to.router, s.receiver_is, on)
  ]

-- ---- growth

transfer_under : (net : NetValue) (prefix : PrefixValue) (arc : Arc) (a b : Row) → IsNet net → IsBelow a b → IsUnder (transfer net prefix arc a) (transfer net prefix arc b)
transfer_under net prefix arc a b valid l = elim (kind net prefix arc valid) [
  | inl s ↦ (let e = s.transfer_is a in let f = s.transfer_is b in rw (e, f) (between_grows net prefix s.from s.to a b valid s.from_in s.to_in l))
  | inr n ↦ under_none (n.transfer_is a)
]

pub transfer_is_row : (net : NetValue) (prefix : PrefixValue) (arc : Arc) (row : Row) → IsNet net → IsRow row → IsRow (transfer net prefix arc row)
transfer_is_row net prefix arc row valid words = elim (kind net prefix arc valid) [
  | inl s ↦ subst IsRow (sym (s.transfer_is row)) (between_is_row net prefix s.from s.to row valid s.from_in s.to_in (words_of row words))
  | inr n ↦ subst IsRow (sym (n.transfer_is row)) bottom_is_row
]

pub gives_is_row : (net : NetValue) (prefix : PrefixValue) (arc : Arc) (row : Row) → IsNet net → IsRow row → IsRow (gives net prefix arc row)
gives_is_row net prefix arc row valid words = go (inhabited (transfer net prefix arc row)) where
  go : (b : Bool) → IsRow (cond b (carried_row (transfer net prefix arc row)) bottom)
  go true = carried_is_row (transfer net prefix arc row) (transfer_is_row net prefix arc row valid words)
  go false = bottom_is_row

pub transfer_grows : (net : NetValue) (prefix : PrefixValue) (arc : Arc) (a b : Row) → IsNet net → IsRow b → IsBelow a b → IsBelow (transfer net prefix arc a) (transfer net prefix arc b)
transfer_grows net prefix arc a b valid words l = elim (transfer_under net prefix arc a b valid l) [
  | under_none e ↦ subst (λ (x : Row). IsBelow x (transfer net prefix arc b)) (sym e) (bottom_below (transfer net prefix arc b) (transfer_is_row net prefix arc b valid words))
  | under_below m ↦ m
]

pub gives_grows : (net : NetValue) (prefix : PrefixValue) (arc : Arc) (a b : Row) → IsNet net → IsRow b → IsBelow a b → IsBelow (gives net prefix arc a) (gives net prefix arc b)
gives_grows net prefix arc a b valid words l = go (inhabited (transfer net prefix arc a)) refl where
  go : (p : Bool) → inhabited (transfer net prefix arc a) ≡ p → IsBelow (cond p (carried_row (transfer net prefix arc a)) bottom) (gives net prefix arc b)
  go false e = bottom_below (gives net prefix arc b) (gives_is_row net prefix arc b valid words)
  go true e =
      let m = transfer_grows net prefix arc a b valid words l in
      let f = (inhabited_is (transfer net prefix arc b)).1 (inhabited_up (transfer net prefix arc a) (transfer net prefix arc b) m ((inhabited_is (transfer net prefix arc a)).0 e)) in
      rw f (carried_up (transfer net prefix arc a) (transfer net prefix arc b) m)

-- an uninhabited row that is no route's, or a row that lies in another
under_inhabited : (a b : Row) → IsUnder a b → IsInhabited a → IsInhabited b
under_inhabited a b u i = elim u [
  | under_none e ↦ absurd (let j = subst IsInhabited e i in let q = j.weight in omega arith)
  | under_below l ↦ inhabited_up a b l i
]

free_inhabited_at : (net : NetValue) (prefix : PrefixValue) (arc : Arc) (row : Row) (s : IsSession net prefix arc) → opens net prefix arc row ≡ true → IsInhabited (between_free net prefix s.from s.to row)
free_inhabited_at net prefix arc row s o = subst IsInhabited (s.free_is row) ((inhabited_is (free net prefix arc row)).0 o)

free_opens_at : (net : NetValue) (prefix : PrefixValue) (arc : Arc) (row : Row) (s : IsSession net prefix arc) → IsInhabited (between_free net prefix s.from s.to row) → opens net prefix arc row ≡ true
free_opens_at net prefix arc row s i = (inhabited_is (free net prefix arc row)).1 (subst IsInhabited (sym (s.free_is row)) i)

pub open_grows : (net : NetValue) (prefix : PrefixValue) (arc : Arc) (a b : Row) → IsNet net → IsBelow a b → opens net prefix arc a ≡ true → opens net prefix arc b ≡ true
open_grows net prefix arc a b valid l o = elim (kind net prefix arc valid) [
  | inl s ↦ free_opens_at net prefix arc b s
      (under_inhabited (between_free net prefix s.from s.to a) (between_free net prefix s.from s.to b)
      (between_free_grows net prefix s.from s.to a b valid s.from_in s.to_in l) (free_inhabited_at net prefix arc a s o))
  | inr n ↦ absurd (let e = n.free_is a in let f : inhabited (free net prefix arc a) ≡ false = ap inhabited e in cc)
]

pub passes_is_open : (net : NetValue) (prefix : PrefixValue) (arc : Arc) (row : Row) → IsNet net → passes net prefix arc row ≡ true → opens net prefix arc row ≡ true
passes_is_open net prefix arc row valid p = elim (kind net prefix arc valid) [
  | inl s ↦ free_opens_at net prefix arc row s (passes_opens net prefix s.from s.to row valid s.from_in s.to_in (sym (s.passes_is row) ∙ p))
  | inr n ↦ absurd (let a = n.passes_is row in let b = p in cc)
]

pub closed_is_bottom : (net : NetValue) (prefix : PrefixValue) (arc : Arc) (row : Row) → IsNet net → opens net prefix arc row ≡ false → transfer net prefix arc row ≡ bottom
closed_is_bottom net prefix arc row valid o = elim (kind net prefix arc valid) [
  | inl s ↦ s.transfer_is row ∙ elim (between_either net prefix s.from s.to row) [
    | inl none ↦ none
    | inr some ↦ absurd (
        let e = free_opens_at net prefix arc row s (under_inhabited (between net prefix s.from s.to row) (between_free net prefix s.from s.to row) (between_under_free net prefix s.from s.to row valid s.to_in) some) in
        let f = o in cc)
  ]
  | inr n ↦ n.transfer_is row
]

pub transfer_either : (net : NetValue) (prefix : PrefixValue) (arc : Arc) (row : Row) → IsNet net → (transfer net prefix arc row ≡ bottom) ⊎ IsInhabited (transfer net prefix arc row)
transfer_either net prefix arc row valid = elim (kind net prefix arc valid) [
  | inl s ↦ (let e = s.transfer_is row in rw e (between_either net prefix s.from s.to row))
  | inr n ↦ inl (n.transfer_is row)
]

pub free_either : (net : NetValue) (prefix : PrefixValue) (arc : Arc) (row : Row) → IsNet net → (free net prefix arc row ≡ bottom) ⊎ IsInhabited (free net prefix arc row)
free_either net prefix arc row valid = elim (kind net prefix arc valid) [
  | inl s ↦ (let e = s.free_is row in rw e (imported_either net prefix s.to (received_free s.to.router (exported net prefix s.from row))))
  | inr n ↦ inl (n.free_is row)
]

pub gives_either : (net : NetValue) (prefix : PrefixValue) (arc : Arc) (row : Row) → IsNet net → (gives net prefix arc row ≡ bottom) ⊎ IsInhabited (gives net prefix arc row)
gives_either net prefix arc row valid = go (inhabited (transfer net prefix arc row)) refl where
  go : (b : Bool) → inhabited (transfer net prefix arc row) ≡ b → (cond b (carried_row (transfer net prefix arc row)) bottom ≡ bottom) ⊎ IsInhabited (cond b (carried_row (transfer net prefix arc row)) bottom)
  go false e = inl refl
  go true e = inr (kept ((inhabited_is (transfer net prefix arc row)).0 e)) where
    kept : IsInhabited (transfer net prefix arc row) → IsInhabited (carried_row (transfer net prefix arc row))
    kept i = record {
      weight = i.weight;
      preference = i.preference;
      length = i.length;
      origin = i.origin;
      med = omega arith;
      communities = i.communities;
      routers = i.routers;
    }

-- ---- short paths

pub transfer_is_cut : (net : NetValue) (prefix : PrefixValue) (arc : Arc) (row : Row) → IsNet net → (transfer net prefix arc row).length.high ≤ longest net
transfer_is_cut net prefix arc row valid = elim (kind net prefix arc valid) [
  | inl s ↦ (let e = ap (λ (x : Row). x.length.high) (s.transfer_is row) in let f = between_short net prefix s.from s.to row in omega arith)
  | inr n ↦ (let e : (transfer net prefix arc row).length.high ≡ 0 = ap (λ (x : Row). x.length.high) (n.transfer_is row) in omega arith)
]

transfer_high : (net : NetValue) (prefix : PrefixValue) (arc : Arc) (row : Row) → IsNet net → (transfer net prefix arc row).length.high ≤ 1344
transfer_high net prefix arc row valid = elim (kind net prefix arc valid) [
  | inl s ↦ (let e = ap (λ (x : Row). x.length.high) (s.transfer_is row) in let f = between_short net prefix s.from s.to row in let g = longest_small net valid in omega arith)
  | inr n ↦ (let e : (transfer net prefix arc row).length.high ≡ 0 = ap (λ (x : Row). x.length.high) (n.transfer_is row) in omega arith)
]

pub transfer_is_short : (net : NetValue) (prefix : PrefixValue) (arc : Arc) (row : Row) → IsNet net → IsShort (transfer net prefix arc row)
transfer_is_short net prefix arc row valid = λ i. let h = transfer_high net prefix arc row valid in let q = i.length in (omega arith, omega arith)

pub gives_is_short : (net : NetValue) (prefix : PrefixValue) (arc : Arc) (row : Row) → IsNet net → IsShort (gives net prefix arc row)
gives_is_short net prefix arc row valid = go (inhabited (transfer net prefix arc row)) where
  go : (b : Bool) → IsShort (cond b (carried_row (transfer net prefix arc row)) bottom)
  go true = λ i. let h = transfer_high net prefix arc row valid in let q = i.length in (omega arith, omega arith)
  go false = λ i. absurd (let q = i.weight in omega arith)
