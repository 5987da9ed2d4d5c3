use Rattle.std.proofs.Common.{◌∙◌, sym, subst, Bool, take, ◌+◌}
use Rattle.ac_types.specs.Separators.{separates}
use Rattle.ac_types.proofs.Words.{IsScanned, stopped, scanned_more, read_whole, broken_off}
use Rattle.ac_types.proofs.word_scan.first_bad_byte.Goals as goal

pub returns-then-not-may_follow-clause-none : goal.returns-then-not-may_follow-clause-none
returns-then-not-may_follow-clause-none c =
    (stopped c.args.separators c.loop-i.in_word c.args.bytes.now c.loop-i.i c.loop-i-test.true
    (sym c.may_follow.ensures ∙ c.if-not-may_follow.true) c.loop-i.invariant).0

pub returns-then-not-may_follow-clause-some : goal.returns-then-not-may_follow-clause-some
returns-then-not-may_follow-clause-some c =
    (stopped c.args.separators c.loop-i.in_word c.args.bytes.now c.loop-i.i c.loop-i-test.true
    (sym c.may_follow.ensures ∙ c.if-not-may_follow.true) c.loop-i.invariant).1

pub loop-i-preserved : goal.loop-i-preserved
loop-i-preserved c =
    let P : Bool → Type 0 = λ w. IsScanned (separates c.args.separators) w (take (c.loop-i.i + 1) c.args.bytes.now) in
    subst P (sym c.stands_in_word-in_word.ensures)
    (scanned_more c.args.separators c.loop-i.in_word c.args.bytes.now c.loop-i.i c.loop-i-test.true
    (sym c.may_follow.ensures ∙ c.if-not-may_follow.false) c.loop-i.invariant)

pub returns-then-in_word-clause-none : goal.returns-then-in_word-clause-none
returns-then-in_word-clause-none c =
    let P : Bool → Type 0 = λ w. IsScanned (separates c.args.separators) w (take c.loop-i.i c.args.bytes.now) in
    read_whole (separates c.args.separators) c.args.bytes.now c.loop-i.i c.loop-i-test.false
    (subst P c.if-in_word.true c.loop-i.invariant)

pub returns-else-in_word-clause-none : goal.returns-else-in_word-clause-none
returns-else-in_word-clause-none c =
    let P : Bool → Type 0 = λ w. IsScanned (separates c.args.separators) w (take c.loop-i.i c.args.bytes.now) in
    (broken_off c.args.separators c.args.bytes.now c.loop-i.i c.loop-i-test.false
    (subst P c.if-in_word.false c.loop-i.invariant)).0

pub returns-else-in_word-clause-some : goal.returns-else-in_word-clause-some
returns-else-in_word-clause-some c =
    let P : Bool → Type 0 = λ w. IsScanned (separates c.args.separators) w (take c.loop-i.i c.args.bytes.now) in
    (broken_off c.args.separators c.args.bytes.now c.loop-i.i c.loop-i-test.false
    (subst P c.if-in_word.false c.loop-i.invariant)).1
