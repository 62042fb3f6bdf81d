use Rattle.desk_tables.proofs.TableLemmas.{between}
use Rattle.std.proofs.Common.{arith}
use Rattle.desk_tables.specs.declared.rows.FileRow.{FileRow}
use Rattle.desk_tables.proofs.lookups.files_in.Goals as goal

pub returns : goal.returns
returns c = (between (λ (f : FileRow). f.review) c.args.review c.args.rows.now _ _ c.first_file-first.ensures.parts c.past_file-past.ensures.parts c.first_file-first.ensures.within c.past_file-past.ensures.within).1

pub slice_bounds-result-start : goal.slice_bounds-result-start
slice_bounds-result-start c = (between (λ (f : FileRow). f.review) c.args.review c.args.rows.now _ _ c.first_file-first.ensures.parts c.past_file-past.ensures.parts c.first_file-first.ensures.within c.past_file-past.ensures.within).0

pub slice_bounds-result-count : goal.slice_bounds-result-count
slice_bounds-result-count c = omega (arith, c.past_file-past.ensures.within, (between (λ (f : FileRow). f.review) c.args.review c.args.rows.now _ _ c.first_file-first.ensures.parts c.past_file-past.ensures.parts c.first_file-first.ensures.within c.past_file-past.ensures.within).0)
