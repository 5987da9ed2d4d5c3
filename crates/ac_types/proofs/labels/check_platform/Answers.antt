use Rattle.std.proofs.Common.{sym, ◌∙◌, true, false}
use Rattle.ac_types.proofs.LabelPlaces.{value_at_is, platform_judged}
use Rattle.ac_types.proofs.labels.check_platform.Goals as goal

pub returns-then-not-is_among : goal.returns-then-not-is_among
returns-then-not-is_among c =
    platform_judged c.args.labels.now c.in-Some.os c.in-Some-place_of.arch c.architectures-known.result.now false
    c.in-Some.ensures.place c.in-Some-place_of.ensures.place
    (c.as_str.ensures ∙ value_at_is c.args.labels.now c.in-Some.os c.index-labels-os.result c.in-Some.ensures.within)
    (c.as_str-2.ensures ∙ value_at_is c.args.labels.now c.in-Some-place_of.arch c.index-labels-arch.result c.in-Some-place_of.ensures.within)
    c.architectures-known.ensures (sym c.is_empty.ensures ∙ c.if-is_empty.false)
    (sym c.is_among.ensures ∙ c.if-not-is_among.true)

pub returns : goal.returns
returns c =
    platform_judged c.args.labels.now c.in-Some.os c.in-Some-place_of.arch c.architectures-known.result.now true
    c.in-Some.ensures.place c.in-Some-place_of.ensures.place
    (c.as_str.ensures ∙ value_at_is c.args.labels.now c.in-Some.os c.index-labels-os.result c.in-Some.ensures.within)
    (c.as_str-2.ensures ∙ value_at_is c.args.labels.now c.in-Some-place_of.arch c.index-labels-arch.result c.in-Some-place_of.ensures.within)
    c.architectures-known.ensures (sym c.is_empty.ensures ∙ c.if-is_empty.false)
    (sym c.is_among.ensures ∙ c.if-not-is_among.false)
