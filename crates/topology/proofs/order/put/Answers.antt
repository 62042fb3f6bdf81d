use Rattle.std.proofs.Common.{◌≡◌, true, false, sym, ap, map, ◌∙◌}
use Rattle.std.specs.List.{list_any, position_or_len}
use Rattle.topology.specs.Live.{same_host, host_before}
use Rattle.topology.proofs.MapLemmas.{put-there, put-new}
use Rattle.topology.proofs.order.put.Goals as goal

pub returns-then-is_there : goal.returns-then-is_there
returns-then-is_there c =
    let found : list_any (λ y. same_host y.now c.args.config.now) c.args.done.now.items ≡ true = rw c.deref.ensures.value at (sym c.is_there.ensures ∙ c.if-is_there.true) in
    sym (put-there (λ y. y.now) same_host host_before c.args.done.now.items c.args.config found)

pub returns : goal.returns
returns c =
    let new : list_any (λ y. same_host y.now c.args.config.now) c.args.done.now.items ≡ false = rw c.deref.ensures.value at (sym c.is_there.ensures ∙ c.if-is_there.false) in
    let at : c.place-place.result ≡ position_or_len (λ y. host_before c.args.config.now y.now) c.args.done.now.items = rw c.deref-2.ensures.value at c.place-place.ensures.value in
    ap (λ xs. map (λ y. y.now) xs) (rw at at c.in_ok-insert.ensures.items) ∙ sym (put-new (λ y. y.now) same_host host_before c.args.done.now.items c.args.config new)
