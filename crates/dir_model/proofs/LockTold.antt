-- An open that was answered, and a try for the lock that was answered, tell whether it was held exclusively.
use Rattle.std.proofs.Common.{◌≡◌, ◌⊎◌, inl, inr, ℕ, Bool, true, false, not, ◌&&◌, ◌||◌, cond, Some, List, [], ◌∷◌, map, refl, sym, ap, subst, ◌∙◌}
use Rattle.std.specs.List.{list_any, AllByRecursion}
use Rattle.dir_model.specs.declared.event.Event.{Event}
use Rattle.dir_model.specs.declared.opening.Opening.{Opening}
use Rattle.dir_model.specs.declared.spot.Handle.{Handle}
use Rattle.dir_model.specs.declared.spot.Spot.{Spot}
use Rattle.dir_model.specs.declared.spot.Which.TheVariants.{Own}
use Rattle.dir_model.specs.declared.spot.Mode.TheVariants.{Shared}
use Rattle.dir_model.specs.declared.request.DirError.TheVariants.{Locked}
use Rattle.dir_model.specs.declared.request.Request.{Request}
use Rattle.dir_model.specs.declared.request.Request.TheVariants.{Open, TryLock}
use Rattle.dir_model.specs.declared.request.Reply.{Reply}
use Rattle.dir_model.specs.declared.request.Reply.TheVariants.{Done, Opened, Refused}
use Rattle.dir_model.specs.Locks.{is_handle, is_exclusive, is_own, is_folder, owns}
use Rattle.dir_model.specs.State.{Namespace, DirState, empty_state, folder_at, is_owned, lives}
use Rattle.dir_model.specs.Trace.{state_after, namespace_replied, locked, opened}
use Rattle.dir_model.specs.Replies.{is_late_reply}
use Rattle.dir_model.specs.Calls.{CallStep, TookPlace, LeftNothing, Interference, is_allowed, event}
use Rattle.dir_model.specs.Between.{LockTold}
use Rattle.dir_model.proofs.Lists.{and_right, same_self, any_last, all_push}
use Rattle.dir_model.proofs.Chains.{state_after-push, states_next-append}
use Rattle.dir_model.proofs.Allowed.{LockSays, open_says, lock_says, held_says}
use Rattle.dir_model.proofs.Moments.{took_at, some_number}
use Rattle.dir_model.proofs.OpenHandles.{Fresh, Plain, StillOpen, still_open, locked_is_owned}

none_plain : (me : ℕ) (handle : Handle) (folder : ℕ) (xs : List Opening) → list_any (is_handle me handle) xs ≡ false → AllByRecursion (Plain me handle folder) xs
none_plain me handle folder [] h = tt
none_plain me handle folder (x ∷ xs) h = by (is_handle me handle x) refl h (λ later. none_plain me handle folder xs later)
  where
    by : (b : Bool) → is_handle me handle x ≡ b → (b || list_any (is_handle me handle) xs) ≡ false → (list_any (is_handle me handle) xs ≡ false → AllByRecursion (Plain me handle folder) xs) → AllByRecursion (Plain me handle folder) (x ∷ xs)
    by true is h later = cc
    by false is h later = (λ mine. let e : false ≡ true = sym is ∙ mine in cc, later h)

this_handle : (me : ℕ) (handle : Handle) (w : Namespace) (spot : Spot) → is_handle me handle (opened w me handle spot Own) ≡ true
this_handle me handle w spot = rw (same_self me, same_self handle.number) refl

fresh_after : (me : ℕ) (handle : Handle) (w : Namespace) (spot : Spot) (folder : ℕ) → folder_at w spot ≡ Some folder → list_any (is_handle me handle) w.openings ≡ false → Fresh me handle folder (namespace_replied w me (Open spot Own) (Opened handle))
fresh_after me handle w spot folder there none = record {
  here = any_last (is_handle me handle) w.openings (opened w me handle spot Own) (this_handle me handle w spot);
  only = all_push (Plain me handle folder) w.openings (opened w me handle spot Own) (none_plain me handle folder w.openings none) (λ mine. (refl, (there, refl)));
}

-- locking it shared changes nobody's exclusive lock
owned_one : (me : ℕ) (handle : Handle) (folder : ℕ) (o : Opening) → Plain me handle folder o → owns folder (locked me handle Shared o) ≡ owns folder o
owned_one me handle folder o plain = by (is_handle me handle o) refl
  where
    by : (b : Bool) → is_handle me handle o ≡ b → owns folder (cond b (record o { lock = Some Shared }) o) ≡ owns folder o
    by true is = sym (ap (λ l. is_folder folder o.folder && (is_own o.target && is_exclusive l)) (plain is).1.1)
    by false is = refl

owned_all : (me : ℕ) (handle : Handle) (folder : ℕ) (xs : List Opening) → AllByRecursion (Plain me handle folder) xs → list_any (owns folder) (map (locked me handle Shared) xs) ≡ list_any (owns folder) xs
owned_all me handle folder [] a = refl
owned_all me handle folder (x ∷ xs) a = rw (owned_one me handle folder x a.0, owned_all me handle folder xs a.1) refl

not_over : (begun over : Bool) → (begun && not over) ≡ true → over ≡ true → ⊥
not_over begun true living is = let e : false ≡ true = and_right begun false living in cc
not_over begun false living is = cc

still_fresh : (me : ℕ) (handle : Handle) (folder : ℕ) (n : Namespace) → StillOpen me handle folder n → lives n me ≡ true → Fresh me handle folder n
still_fresh me handle folder n (inl f) living = f
still_fresh me handle folder n (inr over) living = absurd (not_over _ _ living over)

module _ (me : ℕ) (h0 h1 h2 : List Event) (spot : Spot) (handle : Handle) where
  -- both calls took place
  both : (before1 before2 : List Event) (reply : Reply) (owned : Bool) → Interference me h0 before1 → TookPlace before1 me (Open spot Own) (Opened handle) h1 → Interference me h1 before2 → TookPlace before2 me (TryLock handle Shared) reply h2 → ((s : DirState) → is_allowed s (event me (TryLock handle Shared) reply) ≡ true → LockSays s me handle Shared owned) → ((n : Namespace) (folder : ℕ) → Fresh me handle folder n → is_owned (namespace_replied n me (TryLock handle Shared) reply) folder ≡ is_owned n folder) → LockTold me h0 h2 spot owned
  both before1 before2 reply owned m1 t1 m2 t2 says keeps =
      let n : Namespace = (state_after before1).namespace in
      let opening = open_says (state_after before1) me spot Own handle t1.allowed in
      let k = some_number (folder_at n spot) opening.there in
      let at_open : Fresh me handle k.0 (state_after h1).namespace = subst (λ (s : DirState). Fresh me handle k.0 s.namespace) (sym (ap state_after t1.grown ∙ state_after-push before1 (event me (Open spot Own) (Opened handle)))) (fresh_after me handle n spot k.0 k.1 opening.unopened) in
      let later : StillOpen me handle k.0 (state_after before2).namespace = subst (λ (s : DirState). StillOpen me handle k.0 s.namespace) (sym (ap state_after m2.grown ∙ states_next-append empty_state h1 m2.others)) (still_open me handle k.0 (state_after h1) m2.others m2.foreign (inl at_open)) in
      let locking = says (state_after before2) t2.allowed in
      let fresh : Fresh me handle k.0 (state_after before2).namespace = still_fresh me handle k.0 (state_after before2).namespace later locking.living in
      record {
        folder = k.0;
        between = h1;
        found = took_at me h0 before1 (Open spot Own) (Opened handle) h1 (λ s. folder_at s.namespace spot ≡ Some k.0) refl m1 t1 k.1;
        told = took_at me h1 before2 (TryLock handle Shared) reply h2 (λ s. is_owned s.namespace k.0 ≡ owned) refl m2 t2 (keeps (state_after before2).namespace k.0 fresh ∙ (sym (locked_is_owned me handle k.0 (state_after before2).namespace fresh) ∙ locking.told));
      }

  late_never : {X : Type 0} {request : Request} {reply : Reply} {before new : List Event} → LeftNothing before me request reply new → is_late_reply request reply ≡ false → X
  late_never {X} {request} {reply} {before} {new} left timely = let clash : true ≡ false = sym left.late ∙ timely in cc

  pub told_free : CallStep me h0 (Open spot Own) (Opened handle) h1 → CallStep me h1 (TryLock handle Shared) Done h2 → LockTold me h0 h2 spot false
  told_free s1 s2 = by s1.own s2.own
    where
      by : TookPlace s1.before me (Open spot Own) (Opened handle) h1 ⊎ LeftNothing s1.before me (Open spot Own) (Opened handle) h1 → TookPlace s2.before me (TryLock handle Shared) Done h2 ⊎ LeftNothing s2.before me (TryLock handle Shared) Done h2 → LockTold me h0 h2 spot false
      by (inl t1) (inl t2) = both s1.before s2.before Done false s1.meanwhile t1 s2.meanwhile t2 (λ s allowed. lock_says s me handle Shared allowed) (λ n folder f. owned_all me handle folder n.openings f.only)
      by (inl t1) (inr l2) = late_never l2 refl
      by (inr l1) t2 = late_never l1 refl

  pub told_held : CallStep me h0 (Open spot Own) (Opened handle) h1 → CallStep me h1 (TryLock handle Shared) (Refused Locked 0) h2 → LockTold me h0 h2 spot true
  told_held s1 s2 = by s1.own s2.own
    where
      by : TookPlace s1.before me (Open spot Own) (Opened handle) h1 ⊎ LeftNothing s1.before me (Open spot Own) (Opened handle) h1 → TookPlace s2.before me (TryLock handle Shared) (Refused Locked 0) h2 ⊎ LeftNothing s2.before me (TryLock handle Shared) (Refused Locked 0) h2 → LockTold me h0 h2 spot true
      by (inl t1) (inl t2) = both s1.before s2.before (Refused Locked 0) true s1.meanwhile t1 s2.meanwhile t2 (λ s allowed. held_says s me handle Shared allowed) (λ n folder f. refl)
      by (inl t1) (inr l2) = late_never l2 refl
      by (inr l1) t2 = late_never l1 refl
