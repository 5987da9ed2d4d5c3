use Rattle.std.proofs.Common.{◌∷◌, ◌++◌, [], List, ap, ◌∙◌}
use Rattle.std.specs.Option.{option_map}
use Rattle.dir_model.specs.Reserved.{Reserved}
use Rattle.dir_model.specs.declared.event.Event.{Event}
use Rattle.dir_model.specs.declared.request.Reply.TheVariants.{Begun}
use Rattle.dir_model.specs.State.{DirState}
use Rattle.dir_model.specs.Listings.{noted_by, listing_begun}
use Rattle.dir_model.specs.Trace.{state_after}
use Rattle.dir_model.specs.Calls.{event}
use Rattle.dir_state.specs.Answers.{shown_or_refused}
use Rattle.dir_state.proofs.Answering.{not_listing}
use Rattle.dir_state.proofs.Whole.{whole_allowed, whole_grown}
use Rattle.dir_state.proofs.past.Past.take_listing.Goals as goal

pub add_plain-requires-clause-allowed : goal.add_plain-requires-clause-allowed
add_plain-requires-clause-allowed c =
    let h : List Event = c.args.self.now.items in
    let none = not_listing (state_after h) c.args.process c.args.request.now c.requires.asks c.requires.met in
    whole_allowed h c.args.process c.args.request.now c.requires.asks none c.add.new.self.items c.in_ok-first.first c.in_ok-second.second c.in_ok-end.end c.in_ok-first.ensures c.in_ok-second.ensures
    (ap (λ (r : Reserved Event). r.items) c.add.ensures.grown ∙ ap (λ l. l ++ event c.args.process c.in_ok-first.first Begun ∷ []) c.reserve_more.ensures.same)
    (c.in_ok-end.ensures ∙ ap (λ (s : DirState). shown_or_refused (option_map (noted_by s) (listing_begun s c.args.process c.args.request.now))) (c.self.invariant.agrees ∙ ap (λ (r : Reserved Event). state_after r.items) c.self.view_is))
    c.requires.may

pub returns-clause-ok : goal.returns-clause-ok
returns-clause-ok c =
    let h : List Event = c.args.self.now.items in
    let none = not_listing (state_after h) c.args.process c.args.request.now c.requires.asks c.requires.met in
    whole_grown h c.args.process c.args.request.now c.requires.asks none c.add.new.self.items c.add_plain.new.self.items c.in_ok-first.first c.in_ok-second.second c.in_ok-end.end c.in_ok-first.ensures c.in_ok-second.ensures
    (ap (λ (r : Reserved Event). r.items) c.add.ensures.grown ∙ ap (λ l. l ++ event c.args.process c.in_ok-first.first Begun ∷ []) c.reserve_more.ensures.same)
    (c.in_ok-end.ensures ∙ ap (λ (s : DirState). shown_or_refused (option_map (noted_by s) (listing_begun s c.args.process c.args.request.now))) (c.self.invariant.agrees ∙ ap (λ (r : Reserved Event). state_after r.items) c.self.view_is))
    (ap (λ (r : Reserved Event). r.items) c.add_plain.ensures.grown)
