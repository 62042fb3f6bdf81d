use Rattle.desk_tables.proofs.TableLemmas.{find_split, numbers_tie}
use Rattle.std.proofs.Common.{◌∙◌, sym, ap, ◌==◌}
use Rattle.std.specs.Ordering.{nat_cmp}
use Rattle.std.proofs.lemmas.Cmp.{nat_cmp_total}
use Rattle.desk_tables.specs.declared.rows.CertificateRow.{CertificateRow}
use Rattle.desk_tables.specs.Order.{passing}
use Rattle.desk_tables.specs.Tables.{certificate_key}
use Rattle.desk_tables.proofs.lookups.certificate_in.Goals as goal

pub returns : goal.returns
returns c =
    let same = λ (k : CertificateRow). k.review == c.args.review in
    c.certificate_if.ensures ∙ ap (passing same) c.item.ensures ∙ sym (find_split nat_cmp certificate_key c.args.review same nat_cmp_total (λ k. numbers_tie k.review c.args.review) c.args.rows.now c.certificate_place.result c.requires c.certificate_place.ensures.within c.certificate_place.ensures.parts)
