use Rattle.std.proofs.lemmas.Str.{IsUtf8-from_ascii}
use Rattle.std.proofs.lemmas.Str.Ascii.{IsAscii-from_all}
use Rattle.desk_requests.proofs.TextLemmas.{printed_ascii}
use Rattle.desk_requests.proofs.plans.visible_text.Goals as goal

pub unreachable-requires : goal.unreachable-requires
unreachable-requires c = c.in-Err.ensures.cases.0 (IsUtf8-from_ascii c.args.bytes.now (IsAscii-from_all c.args.bytes.now (printed_ascii c.args.bytes.now c.requires)))
