use Rattle.std.proofs.Common.{rules, ◌≡◌, ◌+◌, true, Some, List, length, take, sym, refl, ap, ◌∙◌, arith}
use Rattle.std.proofs.lemmas.List.{take_all}
use Rattle.std.specs.List.{slice_get}
use Rattle.spawner.specs.declared.call.SpawnCall.{SpawnCall}
use Rattle.std.proofs.lemmas.Option.{slice_get_read}
use Rattle.memory_spawner.specs.SpawnerMemories.{is_start, ok_starts_of}
use Rattle.memory_spawner.proofs.StartPlaces.{start_here, start_past}
use Rattle.memory_spawner.proofs.starts.start_at.Goals as goal

pub returns-then-count-start : goal.returns-then-count-start
returns-then-count-start c =
    let here : slice_get c.args.calls.now c.calls.call-index ≡ Some c.call-item.result = slice_get_read c.args.calls.now (length c.args.calls.now) c.calls.call-index c.call-item.result refl (search rules) (search rules) in
    let passes : is_start c.call-item.result ≡ true = search rules in
    let next : c.args.start ≡ c.calls.count + 1 = search rules in
    sym (start_here c.args.calls.now c.calls.call-index c.args.start c.calls.count c.call-item.result here passes c.calls.invariant.0 next)

pub returns : goal.returns
returns c =
    let whole : take c.calls.call-index c.args.calls.now ≡ c.args.calls.now = take_all c.calls.call-index c.args.calls.now (search rules) in
    let counted : c.calls.count ≡ length (ok_starts_of c.args.calls.now) = c.calls.invariant.0 ∙ ap (λ (calls : List SpawnCall). length (ok_starts_of calls)) whole in
    sym (start_past c.args.calls.now c.args.start (λ some. omega (arith, counted, c.calls.invariant.2 some)))
