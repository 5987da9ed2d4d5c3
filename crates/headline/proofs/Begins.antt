-- With which intent a process begins: a call, several calls that begin nothing, and one after the other.
use Rattle.std.proofs.Common.{◌≡◌, ◌⊎◌, inl, inr, ℕ, Bool, true, false, ◌||◌, Option, Some, List, [], ◌∷◌, ◌++◌, sym, ap, ◌∙◌, append_assoc}
use Rattle.std.specs.List.{AllByRecursion}
use Rattle.plain_laws.proofs.Booleans.{unused}
use Rattle.dir_model.specs.declared.event.Event.{Event}
use Rattle.dir_model.specs.declared.intent.Intent.{Intent}
use Rattle.dir_model.specs.declared.request.Request.{Request}
use Rattle.dir_model.specs.declared.request.Request.TheVariants.{Begin}
use Rattle.dir_model.specs.declared.request.Reply.{Reply}
use Rattle.dir_model.specs.Calls.{CallStep, TookPlace, LeftNothing, Extends, event, is_begin, is_foreign}
use Rattle.dir_model.proofs.Lists.{all_both}
use Rattle.headline.specs.Keeping.{BeginsAs}

module _ (intent : Option Intent) (me : ℕ) where
  abbrev Fits : Event → Type 0
  Fits e = (i : Intent) → is_foreign me e ≡ false → e.request ≡ Begin i → intent ≡ Some i

  -- others' begins, and own requests that are none, are nothing to it
  foreign_fits : (es : List Event) → AllByRecursion (λ e. is_foreign me e ≡ true) es → AllByRecursion Fits es
  foreign_fits [] a = tt
  foreign_fits (e ∷ es) a = (λ i own is. unused (sym a.0 ∙ own), foreign_fits es a.1)

  asked_fits : (asks : Request → Bool) → ((r : Request) → asks r ≡ true → is_begin r ≡ false) → (es : List Event) →
      AllByRecursion (λ e. (is_foreign me e || asks e.request) ≡ true) es → AllByRecursion Fits es
  asked_fits asks none [] a = tt
  asked_fits asks none (e ∷ es) a =
      (λ i own is. unused (sym (ap is_begin is) ∙ none e.request (sym (ap (λ b. b || asks e.request) own) ∙ a.0)), asked_fits asks none es a.1)

  -- one call
  pub call_begins : {old new : List Event} {request : Request} {reply : Reply} → CallStep me old request reply new → ((i : Intent) → request ≡ Begin i → intent ≡ Some i) → BeginsAs intent me old new
  call_begins {old} {new} {request} {reply} s so = by s.own
    where
      others : List Event
      others = s.meanwhile.others

      by : TookPlace s.before me request reply new ⊎ LeftNothing s.before me request reply new → BeginsAs intent me old new
      by (inl took) = record {
        more = others ++ event me request reply ∷ [];
        grown = took.grown ∙ ap (λ h. h ++ event me request reply ∷ []) s.meanwhile.grown ∙ append_assoc old others (event me request reply ∷ []);
        own = all_both Fits others (event me request reply ∷ []) (foreign_fits others s.meanwhile.foreign) (λ i own is. so i is, tt);
      }
      by (inr late) = record { more = others; grown = late.same ∙ s.meanwhile.grown; own = foreign_fits others s.meanwhile.foreign }

  -- several that begin nothing
  pub none_begins : {old new : List Event} {asks : Request → Bool} → ((r : Request) → asks r ≡ true → is_begin r ≡ false) → Extends asks me old new → BeginsAs intent me old new
  none_begins {old} {new} {asks} none e = record { more = e.more; grown = e.grown; own = asked_fits asks none e.more e.asked }

  -- and one after the other
  pub begins_then : {a b c : List Event} → BeginsAs intent me a b → BeginsAs intent me b c → BeginsAs intent me a c
  begins_then {a} {b} {c} ab bc = record {
    more = ab.more ++ bc.more;
    grown = bc.grown ∙ ap (λ h. h ++ bc.more) ab.grown ∙ append_assoc a ab.more bc.more;
    own = all_both Fits ab.more bc.more ab.own bc.own;
  }
