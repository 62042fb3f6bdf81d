use Rattle.std.proofs.Common.{refl}
use Rattle.std.proofs.lemmas.List.{get_or-replicate, length-replicate}
use Rattle.abstract_route.specs.Rows.{bottom}
use Rattle.possible_fixpoint.proofs.notes.Notes.new.Goals as goal

pub returns : goal.returns
returns c =
    record {
      rows_long = length-replicate 64 bottom;
      asked_long = length-replicate 128 bottom;
      rows = λ u h. get_or-replicate 64 u bottom bottom h;
      asked = refl;
      gave = refl;
      begun = refl;
    }
