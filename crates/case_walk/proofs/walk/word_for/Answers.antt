use Rattle.std.proofs.Common.{sym, ap, ◌∙◌}
use Rattle.case_walk.proofs.WordLemmas.{reuses, solves}
use Rattle.case_walk.proofs.walk.word_for.Goals as goal

pub word_at-requires-clause-set : goal.word_at-requires-clause-set
word_at-requires-clause-set g c =
    let r = reuses ((g.S.CaseReader.analysis c.args.net.now).idle c.args.prefix.now) c.args.links c.args.words.now c.args.set c.in-Some.link (c.requires.reusable.idle c.args.prefix.now) c.requires.words c.requires.set c.requires.place c.in-Some.ensures in
    rw c.without.ensures r.permitted

pub word_at-requires-clause-within : goal.word_at-requires-clause-within
word_at-requires-clause-within g c =
    let r = reuses ((g.S.CaseReader.analysis c.args.net.now).idle c.args.prefix.now) c.args.links c.args.words.now c.args.set c.in-Some.link (c.requires.reusable.idle c.args.prefix.now) c.requires.words c.requires.set c.requires.place c.in-Some.ensures in
    rw c.without.ensures r.within

pub returns-in-Some-clause-word : goal.returns-in-Some-clause-word
returns-in-Some-clause-word g c =
    let r = reuses ((g.S.CaseReader.analysis c.args.net.now).idle c.args.prefix.now) c.args.links c.args.words.now c.args.set c.in-Some.link (c.requires.reusable.idle c.args.prefix.now) c.requires.words c.requires.set c.requires.place c.in-Some.ensures in
    r.word c.word_at.result (rw c.without.ensures at c.word_at.ensures)

pub returns-in-Some-clause-own : goal.returns-in-Some-clause-own
returns-in-Some-clause-own g c =
    (reuses ((g.S.CaseReader.analysis c.args.net.now).idle c.args.prefix.now) c.args.links c.args.words.now c.args.set c.in-Some.link (c.requires.reusable.idle c.args.prefix.now) c.requires.words c.requires.set c.requires.place c.in-Some.ensures).own

pub returns-in_ok-solve_word-in-None-clause-word : goal.returns-in_ok-solve_word-in-None-clause-word
returns-in_ok-solve_word-in-None-clause-word g c =
    let s = solves ((g.S.CaseReader.analysis c.args.net.now).idle c.args.prefix.now) c.args.links c.args.words.now c.args.set (c.requires.reusable.idle c.args.prefix.now) c.requires.words c.requires.set c.requires.place c.in-None.ensures in
    c.in_ok-solve_word-in-None.ensures.word ∙ ap ((g.S.CaseReader.analysis c.args.net.now).idle c.args.prefix.now) (sym s.itself)

pub returns-in_ok-solve_word-in-None-clause-own : goal.returns-in_ok-solve_word-in-None-clause-own
returns-in_ok-solve_word-in-None-clause-own g c =
    (solves ((g.S.CaseReader.analysis c.args.net.now).idle c.args.prefix.now) c.args.links c.args.words.now c.args.set (c.requires.reusable.idle c.args.prefix.now) c.requires.words c.requires.set c.requires.place c.in-None.ensures).own
