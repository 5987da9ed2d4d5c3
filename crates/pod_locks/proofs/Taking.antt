-- Stretches in which a process took nothing away.
use Rattle.std.proofs.Common.{◌≡◌, ◌⊎◌, inl, inr, ◌||◌, ℕ, Bool, true, false, not, List, [], ◌∷◌, ◌++◌, refl, ap, subst, ◌∙◌, append_assoc}
use Rattle.std.specs.List.{AllByRecursion}
use Rattle.plain_laws.proofs.Booleans.{own_kept}
use Rattle.dir_model.specs.declared.area.Area.{Area}
use Rattle.dir_model.specs.declared.event.Event.{Event}
use Rattle.dir_model.specs.declared.pod.PodId.{PodId}
use Rattle.dir_model.specs.declared.request.Request.{Request}
use Rattle.dir_model.specs.declared.request.Request.TheVariants.{Open, TryLock, Close}
use Rattle.dir_model.specs.declared.request.Reply.{Reply}
use Rattle.dir_model.specs.declared.request.Reply.TheVariants.{Done}
use Rattle.dir_model.specs.declared.spot.Handle.{Handle}
use Rattle.dir_model.specs.Calls.{CallStep, TookPlace, LeftNothing, Extends, is_foreign, event}
use Rattle.dir_model.specs.Local.{Local}
use Rattle.dir_model.proofs.Lists.{all_both, all_weaker, or_map}
use Rattle.dir_trait.specs.DirCalls.{DirAt, DirCall}
use Rattle.dir_trait.specs.Effects.{LeavesOpen}
use Rattle.pod_locks.specs.Requests.{looks_at}
use Rattle.pod_locks.specs.Taking.{takes_away, TookNothing}

abbrev pub Untaken : ℕ → Event → Type 0
Untaken me e = (is_foreign me e || not (takes_away e.request e.reply)) ≡ true

pub took_more : {me other : ℕ} {a b c : List Event} → TookNothing me a b → other ≡ me → TookNothing other b c → TookNothing me a c
took_more {me} {other} {a} {b} {c} ab same bc =
    let next = subst (λ (p : ℕ). TookNothing p b c) same bc in
    record {
      more = ab.more ++ next.more;
      grown = next.grown ∙ (ap (λ h. h ++ next.more) ab.grown ∙ append_assoc a ab.more next.more);
      still = all_both (Untaken me) ab.more next.more ab.still next.still;
    }

others_took : (me : ℕ) (es : List Event) → AllByRecursion (λ e. is_foreign me e ≡ true) es → AllByRecursion (Untaken me) es
others_took me [] a = tt
others_took me (e ∷ es) a = (rw a.0 refl, others_took me es a.1)

-- a call that wasn't answered so
pub took_call : {me : ℕ} {request : Request} {reply : Reply} {a b : List Event} → takes_away request reply ≡ false → CallStep me a request reply b → TookNothing me a b
took_call {me} {request} {reply} {a} {b} untaken s = from s.own
  where
    from : TookPlace s.before me request reply b ⊎ LeftNothing s.before me request reply b → TookNothing me a b
    from (inl took) = record {
      more = s.meanwhile.others ++ event me request reply ∷ [];
      grown = took.grown ∙ (ap (λ h. h ++ event me request reply ∷ []) s.meanwhile.grown ∙ append_assoc a s.meanwhile.others (event me request reply ∷ []));
      still = all_both (Untaken me) s.meanwhile.others (event me request reply ∷ []) (others_took me s.meanwhile.others s.meanwhile.foreign) (own_kept _ _ untaken, tt);
    }
    from (inr late) = record { more = s.meanwhile.others; grown = late.same ∙ s.meanwhile.grown; still = others_took me s.meanwhile.others s.meanwhile.foreign }

-- requests that take nothing away, whatever they are answered
pub took_by : {asks : Request → Bool} {me : ℕ} {a b : List Event} → ((r : Request) (y : Reply) → asks r ≡ true → not (takes_away r y) ≡ true) → Extends asks me a b
    → TookNothing me a b
took_by {asks} {me} {a} {b} spares e = record { more = e.more; grown = e.grown; still = all_weaker (λ x. (is_foreign me x || asks x.request) ≡ true) (Untaken me) each e.more e.asked }
  where
    each : (x : Event) → (is_foreign me x || asks x.request) ≡ true → Untaken me x
    each x = or_map (is_foreign me x) (asks x.request) (not (takes_away x.request x.reply)) (spares x.request x.reply)

look_spares : (pod : PodId) (place : Area) (r : Request) (y : Reply) → looks_at pod place r ≡ true → not (takes_away r y) ≡ true
look_spares pod place (Open spot which) y is = refl
look_spares pod place (TryLock handle mode) y is = refl
look_spares pod place (Close handle) y is = refl
look_spares pod place r y is = cc

pub took_looks : {me : ℕ} {a b : List Event} (pod : PodId) (place : Area) → Extends (looks_at pod place) me a b → TookNothing me a b
took_looks pod place e = took_by (look_spares pod place) e

-- between a lock's taking and its close
pub took_closed : {observed : Bool} {l : Local} {a b c d : DirAt} {h : Handle} → observed ≡ true → (pod : PodId) (place : Area)
    → LeavesOpen observed (looks_at pod place) l a b → c.process ≡ b.process → DirCall observed c (Close h) Done d → TookNothing b.process b.trace c.trace → TookNothing a.process a.trace d.trace
took_closed t pod place w same z x = took_more (took_more (took_looks pod place (w.extends t)) w.same x) (same ∙ w.same) (took_call refl (z.step t))
