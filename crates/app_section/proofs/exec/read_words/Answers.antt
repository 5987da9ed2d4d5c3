use Rattle.std.proofs.Common.{ℕ, List, map, sym, subst, ◌+◌}
use Rattle.serde_json.specs.View.{view}
use Rattle.ac_types.specs.JsonPaths.{element_path}
use Rattle.ac_types.proofs.EachElement.{IsReadUpTo, read_next, read_fault, read_all, fault_kept}
use Rattle.app_section.specs.ExecForm.{word, words}
use Rattle.app_section.proofs.exec.read_words.Goals as goal

pub returns-in-Err : goal.returns-in-Err
unfolding words
returns-in-Err c =
    fault_kept (word c.loop-i.words (element_path c.args.at.now c.loop-i.i) (view c.index-list-i.result))
    (words c.args.at.now (map view c.args.list.now)) c.in-Err.error
    (λ path kind is. read_fault word c.args.at.now c.args.list.now c.loop-i.words
    c.loop-i.i c.index-list-i.result path kind c.loop-i-test.true c.index-list-i.is is c.loop-i.invariant)
    (c.in-Err.ensures c.loop-i.words c.loop-i.invariant.0)

pub loop-i-preserved : goal.loop-i-preserved
loop-i-preserved c =
    let P : List (List ℕ) → Type 0 = λ xs. IsReadUpTo word c.args.at.now c.args.list.now xs (c.loop-i.i + 1) in
    subst P (sym c.in_ok-words-in-Ok.ensures)
    (read_next word c.args.at.now c.args.list.now c.loop-i.words c.loop-i.i c.index-list-i.result
    c.in-Ok.word c.loop-i-test.true c.index-list-i.is (c.in-Ok.ensures c.loop-i.words c.loop-i.invariant.0) c.loop-i.invariant)

pub returns : goal.returns
unfolding words
returns c =
    read_all word c.args.at.now c.args.list.now c.loop-i.words c.loop-i.i c.loop-i-test.false c.loop-i.invariant
