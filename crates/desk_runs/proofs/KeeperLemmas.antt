-- A keeper stays open.
use Rattle.std.proofs.Common.{◌≡◌, ◌≢◌, ℕ, List, Option, None, sym, ◌∙◌}

pub still_open : (now was : Option (List ℕ)) → now ≡ was → was ≢ None → now ≢ None
still_open now was same opened shut = opened (sym same ∙ shut)
