-- The bytes at a path, entry by entry.
use Rattle.std.proofs.Common.{sym, ◌∙◌, ap, Some}
use Rattle.std.specs.Prelude.{option_map}
use Rattle.net_types.specs.declared.config.SourceFile.{SourceFile}
use Rattle.outside.proofs.EntryLemmas.{bytes_at-entries}
use Rattle.outside.proofs.entries.bytes_at.Goals as goal

pub returns-in-Some : goal.returns-in-Some
returns-in-Some c = ap Some c.as_slice.ensures ∙ ap (option_map (λ (e : SourceFile). e.text)) c.in-Some.ensures ∙ sym (bytes_at-entries c.args.entries.now c.args.path.now)

pub returns-in-None : goal.returns-in-None
returns-in-None c = ap (option_map (λ (e : SourceFile). e.text)) c.in-None.ensures ∙ sym (bytes_at-entries c.args.entries.now c.args.path.now)
