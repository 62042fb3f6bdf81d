use Rattle.std.proofs.Common.{◌≡◌, drop, string_bytes}
use Rattle.net_types.specs.Then.{◌then◌}
use Rattle.report_text.specs.Report.{notice_lines}
use Rattle.report_text.proofs.texts.notice_lines.Given as goal

abbrev pub invariant-loop-notice : goal.invariant-loop-notice
invariant-loop-notice l = string_bytes l.text then notice_lines l.side l.net (drop l.notice-index l.notice-items) ≡ notice_lines l.side l.net l.net.notices
