-- Deeds of a process in their order, and stretches in which it moved nothing.
use Rattle.std.proofs.Common.{◌≡◌, ◌⊎◌, inl, inr, ℕ, Bool, true, false, not, ◌||◌, List, [], ◌∷◌, ◌++◌, refl, sym, ap, subst, ◌∙◌, append_assoc, append-nil}
use Rattle.std.specs.List.{AllByRecursion}
use Rattle.plain_laws.proofs.Booleans.{own_kept}
use Rattle.dir_model.specs.declared.event.Event.{Event}
use Rattle.dir_model.specs.declared.request.Request.{Request}
use Rattle.dir_model.specs.declared.request.Request.TheVariants.{Open, TryLock, Close}
use Rattle.dir_model.specs.declared.request.Reply.{Reply}
use Rattle.dir_model.specs.declared.spot.Spot.{Spot}
use Rattle.dir_model.specs.Calls.{CallStep, TookPlace, LeftNothing, Extends, is_foreign, event}
use Rattle.dir_model.specs.Replies.{is_look_at}
use Rattle.dir_model.proofs.Chains.{step_extends}
use Rattle.dir_model.proofs.Lists.{all_both, all_weaker, or_map}
use Rattle.pod_locks.specs.Work.{Deed, Grew, OneByOne, InOrder, MovedNothing, is_ok_move}

pub grown_none : {a : List Event} → Grew a a
grown_none {a} = record { more = []; grown = sym (append-nil a) }

pub grown_more : {a b c : List Event} → Grew a b → Grew b c → Grew a c
grown_more {a} {b} {c} ab bc = record { more = ab.more ++ bc.more; grown = bc.grown ∙ (ap (λ h. h ++ bc.more) ab.grown ∙ append_assoc a ab.more bc.more) }

pub grown_by : {asks : Request → Bool} {me : ℕ} {a b : List Event} → Extends asks me a b → Grew a b
grown_by {asks} {me} {a} {b} e = record { more = e.more; grown = e.grown }

pub grown_call : {me : ℕ} {request : Request} {reply : Reply} {a b : List Event} → CallStep me a request reply b → Grew a b
grown_call {me} {request} {reply} {a} {b} s = grown_by (step_extends (λ r. true) me a request reply b refl s)

-- deeds in their order

each_after : (me : ℕ) (a b c : List Event) (deeds : List Deed) → Grew a b → OneByOne me b c deeds → OneByOne me a c deeds
each_after me a b c [] ab o = grown_more ab o
each_after me a b c (deed ∷ deeds) ab o = (o.0, o.1, grown_more ab o.2, o.3, o.4)

each_before : (me : ℕ) (a b c : List Event) (deeds : List Deed) → OneByOne me a b deeds → Grew b c → OneByOne me a c deeds
each_before me a b c [] o bc = grown_more o bc
each_before me a b c (deed ∷ deeds) o bc = (o.0, o.1, o.2, o.3, each_before me o.1 b c deeds o.4 bc)

each_then : (me : ℕ) (a b c : List Event) (first second : List Deed) → OneByOne me a b first → OneByOne me b c second → OneByOne me a c (first ++ second)
each_then me a b c [] second ab bc = each_after me a b c second ab bc
each_then me a b c (deed ∷ first) second ab bc = (ab.0, ab.1, ab.2, ab.3, each_then me ab.1 b c first second ab.4 bc)

pub deeds_after : {me : ℕ} {a b c : List Event} {deeds : List Deed} → Grew a b → InOrder me b c deeds → InOrder me a c deeds
deeds_after {me} {a} {b} {c} {deeds} ab o = record { each = each_after me a b c deeds ab o.each }

pub deeds_before : {me : ℕ} {a b c : List Event} {deeds : List Deed} → InOrder me a b deeds → Grew b c → InOrder me a c deeds
deeds_before {me} {a} {b} {c} {deeds} o bc = record { each = each_before me a b c deeds o.each bc }

pub deeds_then : {me other : ℕ} {a b c : List Event} {first second : List Deed} → InOrder me a b first → other ≡ me → InOrder other b c second → InOrder me a c (first ++ second)
deeds_then {me} {other} {a} {b} {c} {first} {second} ab same bc = record { each = each_then me a b c first second ab.each (subst (λ (p : ℕ). InOrder p b c second) same bc).each }

pub one_deed : {me : ℕ} {request : Request} {reply : Reply} {a b : List Event} → CallStep me a request reply b → InOrder me a b (record { request = request; reply = reply } ∷ [])
one_deed {me} {request} {reply} {a} {b} s = record { each = (a, b, grown_none, s, grown_none) }

-- nothing was moved

abbrev Still : ℕ → Event → Type 0
Still me e = (is_foreign me e || not (is_ok_move e.request e.reply)) ≡ true

pub still_none : {me : ℕ} {a : List Event} → MovedNothing me a a
still_none {me} {a} = record { more = []; grown = sym (append-nil a); still = tt }

pub still_more : {me other : ℕ} {a b c : List Event} → MovedNothing me a b → other ≡ me → MovedNothing other b c → MovedNothing me a c
still_more {me} {other} {a} {b} {c} ab same bc =
    let next = subst (λ (p : ℕ). MovedNothing p b c) same bc in
    record {
      more = ab.more ++ next.more;
      grown = next.grown ∙ (ap (λ h. h ++ next.more) ab.grown ∙ append_assoc a ab.more next.more);
      still = all_both (Still me) ab.more next.more ab.still next.still;
    }

foreign_still : (me : ℕ) (es : List Event) → AllByRecursion (λ e. is_foreign me e ≡ true) es → AllByRecursion (Still me) es
foreign_still me [] a = tt
foreign_still me (e ∷ es) a = (rw a.0 refl, foreign_still me es a.1)

pub still_call : {me : ℕ} {request : Request} {reply : Reply} {a b : List Event} → is_ok_move request reply ≡ false → CallStep me a request reply b → MovedNothing me a b
still_call {me} {request} {reply} {a} {b} unmoved s = from s.own
  where
    from : TookPlace s.before me request reply b ⊎ LeftNothing s.before me request reply b → MovedNothing me a b
    from (inl took) = record {
      more = s.meanwhile.others ++ event me request reply ∷ [];
      grown = took.grown ∙ (ap (λ h. h ++ event me request reply ∷ []) s.meanwhile.grown ∙ append_assoc a s.meanwhile.others (event me request reply ∷ []));
      still = all_both (Still me) s.meanwhile.others (event me request reply ∷ []) (foreign_still me s.meanwhile.others s.meanwhile.foreign) (own_kept _ _ unmoved, tt);
    }
    from (inr late) = record { more = s.meanwhile.others; grown = late.same ∙ s.meanwhile.grown; still = foreign_still me s.meanwhile.others s.meanwhile.foreign }

-- looks move nothing
look_still : (test : Spot → Bool) (r : Request) (y : Reply) → is_look_at test r ≡ true → not (is_ok_move r y) ≡ true
look_still test (Open spot which) y is = refl
look_still test (TryLock handle mode) y is = refl
look_still test (Close handle) y is = refl
look_still test r y is = cc

pub still_looks : {test : Spot → Bool} {me : ℕ} {a b : List Event} → Extends (is_look_at test) me a b → MovedNothing me a b
still_looks {test} {me} {a} {b} e = record {
  more = e.more;
  grown = e.grown;
  still = all_weaker (λ x. (is_foreign me x || is_look_at test x.request) ≡ true) (Still me)
      (λ x. or_map (is_foreign me x) (is_look_at test x.request) (not (is_ok_move x.request x.reply)) (look_still test x.request x.reply)) e.more e.asked;
}
