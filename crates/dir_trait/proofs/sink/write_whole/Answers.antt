use Rattle.std.proofs.Common.{◌≡◌, ◌++◌, ◌-◌, ℕ, List, length, take, drop, arith, sym, ap, ◌∙◌, append_assoc, length-drop}
use Rattle.std.proofs.lemmas.List.{take-append-drop}
use Rattle.std.proofs.Math.Seq.{take-add}
use Rattle.plain_laws.proofs.Lists.{all_taken}
use Rattle.dir_trait.proofs.sink.write_whole.Goals as goal

pub returns-in_err-count-clause-part : goal.returns-in_err-count-clause-part
returns-in_err-count-clause-part g c t = record {
  part = take c.pieces.at c.args.text.now;
  rest = drop c.pieces.at c.args.text.now;
  parted = sym (take-append-drop c.pieces.at c.args.text.now);
  grown = c.in_err-count.ensures.unwritten t ∙ c.pieces.invariant.written t;
}

pub pieces-preserved : goal.pieces-preserved
pieces-preserved g c = record {
  within = omega (arith, c.in_ok-count.ensures.most, length-drop c.pieces.at c.args.text.now, c.pieces.invariant.within);
  faults = omega (arith, c.write.ensures.faults, c.pieces.invariant.faults);
  shortages = omega (arith, c.write.ensures.shortages, c.pieces.invariant.shortages);
  written = λ t. (c.in_ok-count.ensures.written t ∙ ap (λ b. (g.S.Sink.shown c.pieces.sink).bytes ++ take c.in_ok-count.count b) (all_taken c.pieces.at c.args.text.now)) ∙ (ap (λ b. b ++ take c.in_ok-count.count (drop c.pieces.at c.args.text.now)) (c.pieces.invariant.written t) ∙ (append_assoc ((g.S.Sink.shown c.args.sink.now).bytes) (take c.pieces.at c.args.text.now) (take c.in_ok-count.count (drop c.pieces.at c.args.text.now)) ∙ ap (λ b. (g.S.Sink.shown c.args.sink.now).bytes ++ b) (sym (take-add c.pieces.at c.in_ok-count.count c.args.text.now))));
}
