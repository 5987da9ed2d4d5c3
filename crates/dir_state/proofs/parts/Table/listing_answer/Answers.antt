use Rattle.std.proofs.Common.{◌≡◌, IfOk, sym, ap, subst, ◌∙◌}
use Rattle.std.specs.Option.{option_map, option_copied}
use Rattle.dir_model.specs.declared.request.Reply.{Reply}
use Rattle.dir_model.specs.declared.tree.OpenListing.{OpenListing}
use Rattle.dir_model.specs.Listings.{noted_by}
use Rattle.dir_state.specs.Parts.{table_state}
use Rattle.dir_state.specs.Answers.{listing_answer, shown, shown_or_refused}
use Rattle.dir_state.proofs.Notes.{answer_is}
use Rattle.dir_state.proofs.parts.Table.listing_answer.Goals as goal

pub returns-in_ok-noted-in-Some : goal.returns-in_ok-noted-in-Some
returns-in_ok-noted-in-Some c =
    let s = table_state c.args.self.now in
    let is : listing_answer s c.args.process ≡ shown (noted_by s c.in-Some.listing.now).listed = answer_is s c.args.process (option_copied c.open_listing.result) (sym c.open_listing.ensures) ∙ ap (λ o. shown_or_refused (option_map (noted_by s) (option_copied o))) c.in-Some.is in
    subst (λ (x : Reply). IfOk c.shown.result (λ reply. reply ≡ x)) (ap (λ (l : OpenListing). shown l.listed) c.in_ok-noted-in-Some.ensures ∙ sym is) c.shown.ensures

pub returns-in-None : goal.returns-in-None
returns-in-None c =
    let s = table_state c.args.self.now in
    sym (answer_is s c.args.process (option_copied c.open_listing.result) (sym c.open_listing.ensures) ∙ ap (λ o. shown_or_refused (option_map (noted_by s) (option_copied o))) c.in-None.is)
