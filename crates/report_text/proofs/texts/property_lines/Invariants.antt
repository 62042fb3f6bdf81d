use Rattle.std.proofs.Common.{◌≡◌, drop, string_bytes}
use Rattle.net_types.specs.Then.{◌then◌}
use Rattle.report_text.specs.Report.{property_lines}
use Rattle.report_text.proofs.texts.property_lines.Given as goal

abbrev pub invariant-loop-i : goal.invariant-loop-i
invariant-loop-i l =
    string_bytes l.text then property_lines l.base.net.now l.new.net.now (drop l.i l.book) (drop l.i l.on_base) (drop l.i l.on_new) ≡
    property_lines l.base.net.now l.new.net.now l.book l.on_base l.on_new
