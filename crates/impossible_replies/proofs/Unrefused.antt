-- What is made in a folder comes to a new path in a directory that stands, and what is appended to is a file that stands.
use Rattle.std.proofs.Common.{arith, ◌≡◌, ℕ, Bool, true, false, not, ◌&&◌, ◌||◌, ◌==◌, cond, nat_le, nat_lt, Option, Some, None, is_some, List, length, codes, refl, sym, ap, subst, ◌∙◌}
use Rattle.std.proofs.lemmas.Bool.Decides.{nat_tests}
use Rattle.std.proofs.lemmas.Bool.{or_left}
use Rattle.plain_laws.proofs.Booleans.{clash}
use Rattle.dir_model.specs.declared.area.Area.{Area}
use Rattle.dir_model.specs.declared.area.Area.TheVariants as area
use Rattle.dir_model.specs.declared.item.Inner.{Inner}
use Rattle.dir_model.specs.declared.event.Event.{Event}
use Rattle.dir_model.specs.declared.request.DirError.{DirError}
use Rattle.dir_model.specs.declared.request.DirError.TheVariants.{Missing}
use Rattle.dir_model.specs.declared.request.Request.{Request}
use Rattle.dir_model.specs.declared.request.Request.TheVariants.{MakeDirIn, MakeFileIn, AppendIn}
use Rattle.dir_model.specs.declared.request.Reply.TheVariants.{Done, Refused}
use Rattle.dir_model.specs.Paths.{is_path}
use Rattle.dir_model.specs.State.{folder_at}
use Rattle.dir_model.specs.Trace.{state_after}
use Rattle.dir_model.specs.Trees.{mark_prefix, has_file, is_apps_own}
use Rattle.dir_model.specs.Replies.{is_reply, is_own_at, is_apps_request, is_error, refusal, refused_in, file_refusal, most_left, left_at, is_fault, is_any_reply, is_state_reply}
use Rattle.dir_model.proofs.Lists.{and_left, and_right, or_last}
use Rattle.dir_rules.specs.declared.seen.Making.{Making}
use Rattle.dir_rules.specs.declared.seen.Seen.{Seen}
use Rattle.dir_rules.specs.Marks.{has_slash, begins, is_started_mark, is_status_file, is_later_mark}
use Rattle.dir_rules.specs.Seen.{makes_at, is_own_mark, is_free}
use Rattle.dir_rules.specs.Standing.{began_as, is_remover}
use Rattle.dir_rules.specs.LockRules.{lock_rules_allow}
use Rattle.dir_rules.specs.Rules.{allows, content_rules_allow, makes_here, may_make_dir, may_make_file_in, may_append_in, may_make_entry, may_note, may_mark, has_note, runs, spares_deleted_pod, of_making, has_file_among as makes_file}
use Rattle.dir_rules.specs.Conforms.{seen_of}
use Rattle.lifecycle.proofs.Handles.{none_refused}
use Rattle.folder_contents.specs.Filled.{is_after_handover}
use Rattle.folder_contents.proofs.Notes.{make_note}
use Rattle.impossible_replies.proofs.Alongside.{Steps}
use Rattle.impossible_replies.proofs.Makers.{here_guarded, made_dir, made_file, appended}
use Rattle.impossible_replies.proofs.Lengths.{marked_later}
use Rattle.impossible_replies.proofs.AppRoots.{name_unowned, status_unowned}

none_of : {X : Type 0} (o : Option X) → is_some o ≡ false → o ≡ None
none_of None h = refl
none_of (Some x) h = cc

-- the path of a note has no slash, or is that of a status
abbrev pub is_plain : List ℕ → Bool
is_plain path = not (has_slash path) || is_status_file path

pub plain_unowned : (h : List Event) (k : ℕ) (path : List ℕ) → is_plain path ≡ true → is_apps_own (state_after h).apps k path ≡ false
plain_unowned h k path plain = by (has_slash path) refl plain
  where
    by : (b : Bool) → has_slash path ≡ b → (not b || is_status_file path) ≡ true → is_apps_own (state_after h).apps k path ≡ false
    by false e x = name_unowned h k path e
    by true e x = status_unowned h k path x

module _ (h : List Event) (p : ℕ) where
  abbrev s : Seen
  s = seen_of p h

  pub unowned : (i : Inner) → ((k : ℕ) → is_own_at (state_after h) i.path (Some k) ≡ false) → is_own_at (state_after h) i.path (folder_at (state_after h).namespace i.spot) ≡ false
  unowned i off = by (folder_at (state_after h).namespace i.spot)
    where
      by : (o : Option ℕ) → is_own_at (state_after h) i.path o ≡ false
      by None = refl
      by (Some k) = off k

  -- what is made there is named so
  pub note_named : (i : Inner) → i.spot.area ≡ area.Run → allows s (MakeFileIn i) ≡ true → is_plain i.path ≡ true
  note_named i run may =
      by (may_note s i) (may_mark s i) refl refl
      (subst (λ (a : Area). may_make_file_in s i a ≡ true) run (and_left (may_make_file_in s i i.spot.area) (spares_deleted_pod s i)
      (and_right (lock_rules_allow s.standing (MakeFileIn i)) (content_rules_allow s (MakeFileIn i)) may)))
    where
      later_plain : is_later_mark i.path ≡ true → has_slash i.path ≡ false
      later_plain later = at (has_slash i.path) later
        where
          at : (c : Bool) → cond c false (cond (begins mark_prefix i.path) true (begins (codes "marked-") i.path)) ≡ true → c ≡ false
          at false h = refl
          at true h = cc

      note : (a b : Bool) → is_started_mark i.path ≡ a → is_status_file i.path ≡ b → (a || b) ≡ true → is_plain i.path ≡ true
      note true b e f x = or_left (not (has_slash i.path)) (is_status_file i.path) (and_right (begins mark_prefix i.path && nat_lt 8 (length i.path)) (not (has_slash i.path)) e)
      note false true e f x = or_last (not (has_slash i.path)) (is_status_file i.path) f
      note false false e f x = cc

      by : (a b : Bool) → may_note s i ≡ a → may_mark s i ≡ b → (a || b) ≡ true → is_plain i.path ≡ true
      by true b e f x = note (is_started_mark i.path) (is_status_file i.path) refl refl
          (and_left (is_started_mark i.path || is_status_file i.path) (not (has_note s i)) (and_right (runs s i.spot.name) _ e))
      by false true e f x = or_left (not (has_slash i.path)) (is_status_file i.path) (ap not (later_plain (marked_later i.path s.standing.intent
          (and_left (is_own_mark s.standing.intent i.path) (is_free s i.spot) (and_right (began_as is_remover s.standing) _ f))
          (make_note s i (ap is_after_handover run) may))))
      by false false e f x = cc

  -- a note is nobody's app's
  pub note_plain : (i : Inner) → i.spot.area ≡ area.Run → allows s (MakeFileIn i) ≡ true → is_apps_request (state_after h) (MakeFileIn i) ≡ false
  note_plain i run may = unowned i (λ k. plain_unowned h k i.path (note_named i run may))

  pub append_plain : (i : Inner) (piece : List ℕ) → i.spot.area ≡ area.Run → allows s (AppendIn i piece) ≡ true → is_apps_request (state_after h) (AppendIn i piece) ≡ false
  append_plain i piece run may =
      unowned i (λ k. status_unowned h k i.path (and_left (is_status_file i.path) (has_note s i) (and_right (runs s i.spot.name) _
      (subst (λ (a : Area). may_append_in s i a ≡ true) run (and_left (may_append_in s i i.spot.area) (spares_deleted_pod s i)
      (and_right (lock_rules_allow s.standing (AppendIn i piece)) (content_rules_allow s (AppendIn i piece)) may))))))

  -- where nothing but the state answers, an Ok was refused by nothing
  pub done : (request : Request) → is_apps_request (state_after h) request ≡ false → is_reply (state_after h) p request Done ≡ true → refusal (state_after h) p request ≡ None
  done request plain is = none_of (refusal (state_after h) p request) (none_refused (state_after h) p request plain is)

  module _ (making : Option Making) (is : s.making ≡ making) where
    here_making : (i : Inner) (a : Area) → makes_here s i.spot a ≡ true → (m : Making) × (s.making ≡ Some m)
    here_making i a here = by making is
      where
        by : (o : Option Making) → s.making ≡ o → (m : Making) × (s.making ≡ Some m)
        by (Some m) e = (m, e)
        by None e = clash (makes_at s.making i.spot) (here_guarded s i.spot a here).0 (ap (λ (o : Option Making). makes_at o i.spot) e)

  pub dir_unrefused : (i : Inner) → Steps h p (MakeDirIn i) Done → is_path i.path ≡ true → refusal (state_after h) p (MakeDirIn i) ≡ None
  dir_unrefused i x path =
      let here = and_left (makes_here s i.spot i.spot.area) (of_making (may_make_entry s false i) s.making)
      (and_left (may_make_dir s i) (spares_deleted_pod s i) (and_right (lock_rules_allow s.standing (MakeDirIn i)) (content_rules_allow s (MakeDirIn i)) x.may)) in
      let m = here_making s.making refl i i.spot.area here in
      made_dir h p x.conforming x.living m.0 m.1 i path x.may

  pub file_unrefused : (i : Inner) → Steps h p (MakeFileIn i) Done → is_path i.path ≡ true → refusal (state_after h) p (MakeFileIn i) ≡ None
  file_unrefused i x path = by i.spot.area refl (and_left (may_make_file_in s i i.spot.area) (spares_deleted_pod s i)
      (and_right (lock_rules_allow s.standing (MakeFileIn i)) (content_rules_allow s (MakeFileIn i)) x.may))
    where
      on : (a : Area) → (makes_here s i.spot a && of_making (may_make_entry s true i) s.making) ≡ true → refusal (state_after h) p (MakeFileIn i) ≡ None
      on a g =
          let here = and_left (makes_here s i.spot a) (of_making (may_make_entry s true i) s.making) g in
          let m = here_making s.making refl i a here in
          made_file h p x.conforming x.living m.0 m.1 i path (here_guarded s i.spot a here).0 x.may

      by : (a : Area) → i.spot.area ≡ a → may_make_file_in s i a ≡ true → refusal (state_after h) p (MakeFileIn i) ≡ None
      by area.Run e g = done (MakeFileIn i) (note_plain i e x.may) x.is
      by area.Embryo e g = on area.Embryo g
      by area.Prepare e g = on area.Prepare g
      by area.Prepared e g = on area.Prepared g
      by area.ExitedGarbage e g = on area.ExitedGarbage g
      by area.Garbage e g = on area.Garbage g
      by area.Incoming e g = on area.Incoming g
      by area.Images e g = on area.Images g
      by area.Trees e g = on area.Trees g
      by area.Removed e g = on area.Removed g

  -- an append, or the first bytes of one that was refused, is to a file that stands
  appends_to : (i : Inner) (piece : List ℕ) → Steps h p (AppendIn i piece) Done → refusal (state_after h) p (AppendIn i piece) ≡ None
  appends_to i piece x = by i.spot.area refl (and_left (may_append_in s i i.spot.area) (spares_deleted_pod s i)
      (and_right (lock_rules_allow s.standing (AppendIn i piece)) (content_rules_allow s (AppendIn i piece)) x.may))
    where
      on : (a : Area) → (makes_here s i.spot a && of_making (λ m. makes_file i.path m.entries) s.making) ≡ true → refusal (state_after h) p (AppendIn i piece) ≡ None
      on a g =
          let here = and_left (makes_here s i.spot a) (of_making (λ m. makes_file i.path m.entries) s.making) g in
          let m = here_making s.making refl i a here in
          appended h p x.conforming x.living m.0 m.1 i piece (here_guarded s i.spot a here).0 x.may

      by : (a : Area) → i.spot.area ≡ a → may_append_in s i a ≡ true → refusal (state_after h) p (AppendIn i piece) ≡ None
      by area.Run e g = done (AppendIn i piece) (append_plain i piece e x.may) x.is
      by area.Embryo e g = on area.Embryo g
      by area.Prepare e g = on area.Prepare g
      by area.Prepared e g = on area.Prepared g
      by area.ExitedGarbage e g = on area.ExitedGarbage g
      by area.Garbage e g = on area.Garbage g
      by area.Incoming e g = on area.Incoming g
      by area.Images e g = on area.Images g
      by area.Trees e g = on area.Trees g
      by area.Removed e g = on area.Removed g

  file_there : (i : Inner) (piece : List ℕ) (k : ℕ) → folder_at (state_after h).namespace i.spot ≡ Some k → refusal (state_after h) p (AppendIn i piece) ≡ None →
      has_file (state_after h).entries k i.path ≡ true
  file_there i piece k at none = by (has_file (state_after h).entries k i.path) (sym (ap (λ (o : Option ℕ). refused_in (file_refusal i.path) (state_after h).entries o) at) ∙ none)
    where
      by : (b : Bool) → cond b None (Some Missing) ≡ None → b ≡ true
      by true e = refl
      by false e = cc

  pub append_there : (i : Inner) (piece : List ℕ) (k : ℕ) → folder_at (state_after h).namespace i.spot ≡ Some k → Steps h p (AppendIn i piece) Done →
      has_file (state_after h).entries k i.path ≡ true
  append_there i piece k at x = file_there i piece k at (appends_to i piece x)

  pub left_there : (i : Inner) (piece : List ℕ) (error : DirError) (left k : ℕ) → folder_at (state_after h).namespace i.spot ≡ Some k →
      Steps h p (AppendIn i piece) (Refused error left) → (left == 0) ≡ false → has_file (state_after h).entries k i.path ≡ true
  left_there i piece error left k at x some = by i.spot.area refl (and_left (may_append_in s i i.spot.area) (spares_deleted_pod s i)
      (and_right (lock_rules_allow s.standing (AppendIn i piece)) (content_rules_allow s (AppendIn i piece)) x.may))
    where
      on : (a : Area) → (makes_here s i.spot a && of_making (λ m. makes_file i.path m.entries) s.making) ≡ true → has_file (state_after h).entries k i.path ≡ true
      on a g =
          let here = and_left (makes_here s i.spot a) (of_making (λ m. makes_file i.path m.entries) s.making) g in
          let m = here_making s.making refl i a here in
          file_there i piece k at (appended h p x.conforming x.living m.0 m.1 i piece (here_guarded s i.spot a here).0 x.may)

      run : i.spot.area ≡ area.Run → has_file (state_after h).entries k i.path ≡ true
      run e = most (has_file (state_after h).entries k i.path) refl
        where
          state : (((true && (is_fault error && nat_le left (most_left (state_after h) (AppendIn i piece))))) || ((left == 0) && is_error error (refusal (state_after h) p (AppendIn i piece)))) ≡ true
          state = ap (λ b. cond b (is_any_reply (state_after h) p (AppendIn i piece) (Refused error left)) (is_state_reply (state_after h) p (AppendIn i piece) (Refused error left)))
              (sym (append_plain i piece e x.may)) ∙ x.is

          within : nat_le left (most_left (state_after h) (AppendIn i piece)) ≡ true
          within = pick (is_fault error) (nat_le left (most_left (state_after h) (AppendIn i piece))) (left == 0) (is_error error (refusal (state_after h) p (AppendIn i piece))) some state
            where
              pick : (f l z r : Bool) → z ≡ false → ((true && (f && l)) || (z && r)) ≡ true → l ≡ true
              pick true true z r off g = refl
              pick true false false r off g = cc
              pick true false true r off g = cc
              pick false l false r off g = cc
              pick false l true r off g = cc

          zero_none : (n : ℕ) → (n == 0) ≡ false → nat_le n 0 ≡ true → ⊥
          zero_none n off g = absurd (grind (arith, nat_tests))

          most : (b : Bool) → has_file (state_after h).entries k i.path ≡ b → b ≡ true
          most true f = refl
          most false f = absurd (zero_none left some (sym (ap (λ n. nat_le left n)
              (ap (λ (o : Option ℕ). left_at i.path piece (state_after h).entries o) at ∙ ap (λ b. cond b (length piece) 0) f)) ∙ within))

      by : (a : Area) → i.spot.area ≡ a → may_append_in s i a ≡ true → has_file (state_after h).entries k i.path ≡ true
      by area.Run e g = run e
      by area.Embryo e g = on area.Embryo g
      by area.Prepare e g = on area.Prepare g
      by area.Prepared e g = on area.Prepared g
      by area.ExitedGarbage e g = on area.ExitedGarbage g
      by area.Garbage e g = on area.Garbage g
      by area.Incoming e g = on area.Incoming g
      by area.Images e g = on area.Images g
      by area.Trees e g = on area.Trees g
      by area.Removed e g = on area.Removed g
