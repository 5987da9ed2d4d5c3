-- An event on both sides.
use Rattle.std.proofs.Common.{◌≡◌, ◌+◌, ◌-◌, true, ℕ, List, [], ◌∷◌, ◌++◌, arith, sym, ap, subst, ◌∙◌}
use Rattle.dir_model.specs.Reserved.{Reserved, reserved}
use Rattle.dir_model.specs.declared.event.Event.{Event}
use Rattle.dir_model.specs.Trace.{state_next, state_after}
use Rattle.dir_model.specs.Calls.{IsRun, is_allowed}
use Rattle.dir_model.proofs.Chains.{run-push, state_after-push}
use Rattle.dir_state.specs.declared.parts.Table.{Table}
use Rattle.dir_state.specs.Parts.{table_state, IsPast}

pub past_push : (given events new : Reserved Event) (table grown : Table) (spare : ℕ) (e : Event) → IsPast events table spare → events.items ≡ given.items → is_allowed (state_after given.items) e ≡ true → new ≡ reserved (events.items ++ e ∷ []) (events.spare - 1) → grown.namespace.spare + 1 ≡ table.namespace.spare → grown.trees.spare + 1 ≡ table.trees.spare → table_state grown ≡ state_next (table_state table) e → IsPast new grown (spare - 1)
past_push given events new table grown spare e past same allowed pushed namespace trees state = record {
  agrees = state ∙ (ap (λ s. state_next s e) past.agrees ∙ (sym (state_after-push events.items e) ∙ sym (ap (λ (r : Reserved Event). state_after r.items) pushed)));
  run = subst (λ (r : Reserved Event). IsRun r.items) (sym pushed) (run-push events.items e past.run (subst (λ (es : List Event). is_allowed (state_after es) e ≡ true) (sym same) allowed));
  events_room = omega (arith, past.events_room, ap (λ (r : Reserved Event). r.spare) pushed);
  namespace_room = omega (arith, past.namespace_room, namespace);
  trees_room = omega (arith, past.trees_room, trees);
}
