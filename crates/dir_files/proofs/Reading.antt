-- Reads of a file one after the other, and what they tell of it.
use Rattle.std.proofs.Common.{◌≡◌, ◌⊎◌, inl, inr, ◌≤◌, ℕ, Bool, true, false, not, ◌&&◌, cond, Option, Some, None, is_some, IsErrOf, Result, Ok, Err, List, [], ◌∷◌, ◌++◌, length, take, drop, refl, sym, ap, subst, ◌∙◌, arith, append_assoc, append-nil}
use Rattle.std.proofs.lemmas.Slice.Eq.{bytes_eq-Decides}
use Rattle.plain_laws.proofs.Fronts.{taken_past, next_first, short_whole}
use Rattle.dir_model.specs.declared.area.Area.{Area}
use Rattle.dir_model.specs.declared.area.Area.TheVariants.{Images}
use Rattle.dir_model.specs.declared.event.Event.{Event}
use Rattle.dir_model.specs.declared.item.Inner.{Inner}
use Rattle.dir_model.specs.declared.request.DirError.{DirError}
use Rattle.dir_model.specs.declared.request.DirError.TheVariants.{Missing, Exists, NotEmpty, Locked, Failed, NoMemory}
use Rattle.dir_model.specs.declared.request.Request.TheVariants.{ReadIn}
use Rattle.dir_model.specs.declared.request.Reply.{Reply}
use Rattle.dir_model.specs.declared.request.Reply.TheVariants.{Read, Refused}
use Rattle.dir_model.specs.State.{DirState, folder_at}
use Rattle.dir_model.specs.Trace.{state_next, state_after}
use Rattle.dir_model.specs.Trees.{has_file, content}
use Rattle.dir_model.specs.Replies.{read_reply, may_refuse, is_apps_inner, is_any_reply, is_state_reply, is_read_answer, refusal, refused_in, file_refusal, bytes_at, is_error}
use Rattle.dir_model.specs.Calls.{AtOwnStep, is_allowed, event}
use Rattle.dir_model.proofs.Lists.{and_left, and_right, not_true}
use Rattle.dir_model.proofs.Chains.{nothing_yet, and_call, and_more}
use Rattle.dir_model.proofs.Moments.{step_at, at_after, at_grown}
use Rattle.dir_model.proofs.Allowed.{allowed_reply}
use Rattle.dir_rules.specs.declared.seen.Seen.{Seen}
use Rattle.dir_rules.specs.Conforms.{seen_replied}
use Rattle.dir_rules.specs.Rules.{may_read_area}
use Rattle.dir_laws.proofs.Spots.{inner_self}
use Rattle.dir_trait.specs.DirCalls.{DirAt, DirCall}
use Rattle.dir_trait.specs.Knowledge.{Knows}
use Rattle.dir_trait.proofs.Knowing.{knows_call}
use Rattle.dir_trait.proofs.ListCalls.{local_read}
use Rattle.dir_files.specs.Reads.{bytes_in, file_at, TellsFile, IsPiece, Piece, joined_pieces, AreTold, IsShort, HasReadSoFar, ReadsUp, ReadsNext, WasMissing, may_read, OnlyReads, is_read_refusal, StaysFrom, FileStaysBetween}

-- what a read leaves of what a process knows
look_same : (s : Seen) (area : Area) → may_read area s.standing ≡ true → may_read_area s area ≡ true
look_same s Images h = h
look_same s area h = refl

seen_same : (s : Seen) (inner : Inner) (at room : ℕ) (filled : List ℕ) (r : Result ℕ DirError) → may_read inner.spot.area s.standing ≡ true → seen_replied s (ReadIn inner at room) (read_reply filled r) ≡ s
seen_same s inner at room filled (Ok n) h = ap (λ (b : Bool). record s { kept = b && s.kept }) (look_same s inner.spot.area h)
seen_same s inner at room filled (Err e) h = ap (λ (b : Bool). record s { kept = b && s.kept }) (look_same s inner.spot.area h)

pub only_none : {observed : Bool} {inner : Inner} {d : DirAt} → OnlyReads observed inner d d
only_none = record { same = refl; faults = omega arith; local = refl; extends = λ t. nothing_yet; known = λ t s may k. k }

pub only_call : {observed : Bool} {old new : DirAt} (inner : Inner) (at room : ℕ) (filled : List ℕ) (r : Result ℕ DirError) → DirCall observed old (ReadIn inner at room) (read_reply filled r) new → OnlyReads observed inner old new
only_call {observed} {old} {new} inner at room filled r c = record {
  same = c.same;
  faults = c.faults;
  local = c.local ∙ local_read old.local inner at room filled r;
  extends = λ t. and_call nothing_yet refl (inner_self inner) (c.step t);
  known = λ t s may k. subst (λ (x : Seen). Knows new x) (seen_same s inner at room filled r may) (knows_call t k refl refl c);
}

pub only_more : {observed : Bool} {inner : Inner} {a b c : DirAt} → OnlyReads observed inner a b → OnlyReads observed inner b c → OnlyReads observed inner a c
only_more ab bc = record {
  same = bc.same ∙ ab.same;
  faults = omega (arith, ab.faults, bc.faults);
  local = bc.local ∙ ab.local;
  extends = λ t. and_more (ab.extends t) ab.same (bc.extends t);
  known = λ t s may k. bc.known t s may (ab.known t s may k);
}

-- what a read is refused with
pub read_refused : (inner : Inner) (at room : ℕ) (error : DirError) → may_refuse (ReadIn inner at room) error ≡ true → is_read_refusal error ≡ true
read_refused inner at room Missing h = refl
read_refused inner at room Failed h = refl
read_refused inner at room NoMemory h = refl
read_refused inner at room Exists h = h
read_refused inner at room NotEmpty h = h
read_refused inner at room Locked h = h

-- what the answer says of the file, by the state
module _ (s : DirState) (me : ℕ) (inner : Inner) (at room : ℕ) where
  state_reply : (reply : Reply) → is_apps_inner s (Some inner) ≡ false → is_allowed s (event me (ReadIn inner at room) reply) ≡ true → is_state_reply s me (ReadIn inner at room) reply ≡ true
  state_reply reply plain allowed = by (is_apps_inner s (Some inner)) plain (allowed_reply s me (ReadIn inner at room) reply allowed)
    where
      by : (b : Bool) → b ≡ false → cond b (is_any_reply s me (ReadIn inner at room) reply) (is_state_reply s me (ReadIn inner at room) reply) ≡ true → is_state_reply s me (ReadIn inner at room) reply ≡ true
      by true off h = cc
      by false off h = h

  says_bytes : (bytes : List ℕ) → is_apps_inner s (Some inner) ≡ false → is_allowed s (event me (ReadIn inner at room) (Read bytes)) ≡ true → IsPiece at room bytes (file_at s inner)
  says_bytes bytes plain allowed =
      let h = state_reply (Read bytes) plain allowed in
      by (folder_at s.namespace inner.spot)
      (not_true (is_some (refusal s me (ReadIn inner at room))) (and_left (not (is_some (refusal s me (ReadIn inner at room)))) (is_read_answer s (ReadIn inner at room) bytes) h))
      ((bytes_eq-Decides bytes (bytes_at s.entries inner.path at room (folder_at s.namespace inner.spot))).0 (and_right (not (is_some (refusal s me (ReadIn inner at room)))) (is_read_answer s (ReadIn inner at room) bytes) h))
    where
      there : (folder : ℕ) (b : Bool) → is_some (cond b None (Some Missing)) ≡ false → bytes ≡ take room (drop at (content s.entries folder inner.path)) → IsPiece at room bytes (cond b (Some (content s.entries folder inner.path)) None)
      there folder true taken is = is
      there folder false taken is = cc

      by : (o : Option ℕ) → is_some (refused_in (file_refusal inner.path) s.entries o) ≡ false → bytes ≡ bytes_at s.entries inner.path at room o → IsPiece at room bytes (bytes_in s.entries inner.path o)
      by None taken is = cc
      by (Some folder) taken is = there folder (has_file s.entries folder inner.path) taken is

  says_missing : is_apps_inner s (Some inner) ≡ false → is_allowed s (event me (ReadIn inner at room) (Refused Missing 0)) ≡ true → file_at s inner ≡ None
  says_missing plain allowed = by (folder_at s.namespace inner.spot) (state_reply (Refused Missing 0) plain allowed)
    where
      there : (folder : ℕ) (b : Bool) → is_error Missing (cond b None (Some Missing)) ≡ true → cond b (Some (content s.entries folder inner.path)) None ≡ None
      there folder true h = cc
      there folder false h = refl

      by : (o : Option ℕ) → is_error Missing (refused_in (file_refusal inner.path) s.entries o) ≡ true → bytes_in s.entries inner.path o ≡ None
      by None h = refl
      by (Some folder) h = there folder (has_file s.entries folder inner.path) h

-- and of the state that it leaves, which is the same but for the listings
module _ {observed : Bool} {old new : DirAt} (inner : Inner) (at room : ℕ) (t : observed ≡ true) where
  pub told_bytes : (bytes : List ℕ) → DirCall observed old (ReadIn inner at room) (Read bytes) new → AtOwnStep old.process old.trace new.trace (TellsFile inner (IsPiece at room bytes))
  told_bytes bytes c = step_at old.process old.trace (ReadIn inner at room) (Read bytes) new.trace (TellsFile inner (IsPiece at room bytes)) refl refl (λ s allowed plain. after s (λ p. says_bytes s old.process inner at room bytes p allowed) plain) (c.step t)
    where
      after : (s : DirState) → (is_apps_inner s (Some inner) ≡ false → IsPiece at room bytes (file_at s inner)) → is_apps_inner (state_next s (event old.process (ReadIn inner at room) (Read bytes))) (Some inner) ≡ false → IsPiece at room bytes (file_at (state_next s (event old.process (ReadIn inner at room) (Read bytes))) inner)
      after s f plain = rw (append-nil s.entries) (f (rw (sym (append-nil s.apps)) plain))

  pub told_missing : DirCall observed old (ReadIn inner at room) (Refused Missing 0) new → WasMissing inner old new
  told_missing c = step_at old.process old.trace (ReadIn inner at room) (Refused Missing 0) new.trace (TellsFile inner (λ file. file ≡ None)) refl refl (λ s allowed plain. after s (λ p. says_missing s old.process inner at room p allowed) plain) (c.step t)
    where
      after : (s : DirState) → (is_apps_inner s (Some inner) ≡ false → file_at s inner ≡ None) → is_apps_inner (state_next s (event old.process (ReadIn inner at room) (Refused Missing 0))) (Some inner) ≡ false → file_at (state_next s (event old.process (ReadIn inner at room) (Refused Missing 0))) inner ≡ None
      after s f plain = rw (append-nil s.entries) (f (rw (sym (append-nil s.apps)) plain))

-- a refused read told nothing but that no file stood there
pub missing_call : {observed : Bool} {old new : DirAt} (inner : Inner) (at room : ℕ) (filled : List ℕ) (r : Result ℕ DirError) → DirCall observed old (ReadIn inner at room) (read_reply filled r) new → IsErrOf r Missing → observed ≡ true → WasMissing inner old new
missing_call {observed} {old} {new} inner at room filled r c is t = told_missing inner at room t (subst (λ (x : Result ℕ DirError). DirCall observed old (ReadIn inner at room) (read_reply filled x) new) is c)

-- several reads
pub reads_none : {inner : Inner} {d : DirAt} → HasReadSoFar inner d d []
reads_none = record { pieces = []; whole = refl; told = refl }

abbrev pub reads_more : {inner : Inner} {a b c : DirAt} {room : ℕ} {ended : Bool} {before after : List ℕ} → HasReadSoFar inner a b before → b.process ≡ a.process → ReadsNext inner room ended before after b c → HasReadSoFar inner a c after
reads_more {inner} {a} {b} {c} {room} {ended} {before} {after} r same n = record {
  pieces = record { room = room; bytes = n.piece } ∷ r.pieces;
  whole = n.grown ∙ ap (λ (l : List ℕ). l ++ n.piece) r.whole;
  told = record {
    between = b.trace;
    earlier = r.told;
    told = subst (λ (l : List ℕ). AtOwnStep a.process b.trace c.trace (TellsFile inner (IsPiece (length l) room n.piece))) r.whole (subst (λ (p : ℕ). AtOwnStep p b.trace c.trace (TellsFile inner (IsPiece (length before) room n.piece))) same n.told);
  };
}

-- the last of them was short
pub reads_ended : {inner : Inner} {a b c : DirAt} {room most : ℕ} {ended : Bool} {before after : List ℕ} → HasReadSoFar inner a b before → b.process ≡ a.process → ReadsNext inner room ended before after b c → ended ≡ true → ReadsUp inner most a c after
reads_ended r same n e = record { reads = reads_more r same n; ended = inr (n.short e) }

pub missing_more : {observed : Bool} {inner : Inner} {a b : DirAt} (c : DirAt) → observed ≡ true → OnlyReads observed inner a b → WasMissing inner b c → WasMissing inner a c
missing_more c t ab w = at_after (ab.extends t) ab.same w

-- a file that stays is what was read
module _ (me : ℕ) (inner : Inner) (file : List ℕ) (old : List Event) where
  stays_before : {mid new : List Event} (more : List Event) → new ≡ mid ++ more → StaysFrom me inner file old new → StaysFrom me inner file old mid
  stays_before {mid} {new} more grown s later rest step is own = s later (rest ++ more) step (grown ∙ ap (λ h. h ++ more) is ∙ append_assoc ((old ++ later) ++ step ∷ []) rest more) own

  stays_told : {between new : List Event} (P : Option (List ℕ) → Type 0) (more : List Event) → between ≡ old ++ more → AtOwnStep me between new (TellsFile inner P) → StaysFrom me inner file old new → P (Some file)
  stays_told {between} {new} P more grown at s =
      let is : at.before ≡ old ++ (more ++ at.later) = at.begins ∙ (ap (λ h. h ++ at.later) grown ∙ append_assoc old more at.later) in
      let x = s (more ++ at.later) at.rest at.step (at.ends ∙ ap (λ h. (h ++ at.step ∷ []) ++ at.rest) is) at.own in
      let here = subst (λ (h : List Event). TellsFile inner P (state_after (h ++ at.step ∷ []))) is at.holds in
      subst P x.1 (here x.0)

  told_grown : (pieces : List Piece) {new : List Event} → AreTold me inner old pieces new → (more : List Event) × (new ≡ old ++ more)
  told_grown [] {new} told = ([], told ∙ sym (append-nil old))
  told_grown (p ∷ earlier) {new} told =
      let e = told_grown earlier told.earlier in
      let g = at_grown told.told in
      (e.0 ++ g.0, g.1 ∙ (ap (λ h. h ++ g.0) e.1 ∙ append_assoc old e.0 g.0))

  piece_told : (p : Piece) (earlier : List Piece) {new : List Event} → AreTold me inner old (p ∷ earlier) new → StaysFrom me inner file old new → p.bytes ≡ take p.room (drop (length (joined_pieces earlier)) file)
  piece_told p earlier told s = let e = told_grown earlier told.earlier in stays_told (IsPiece (length (joined_pieces earlier)) p.room p.bytes) e.0 e.1 told.told s

  told_first : (pieces : List Piece) {new : List Event} → AreTold me inner old pieces new → StaysFrom me inner file old new → joined_pieces pieces ≡ take (length (joined_pieces pieces)) file
  told_first [] told s = refl
  told_first (p ∷ earlier) told s =
      let g = at_grown told.told in
      next_first file (joined_pieces earlier) p.bytes p.room (told_first earlier told.earlier (stays_before g.0 g.1 s)) (piece_told p earlier told s)

  told_short : (pieces : List Piece) {new : List Event} → AreTold me inner old pieces new → StaysFrom me inner file old new → IsShort pieces → joined_pieces pieces ≡ file
  told_short [] told s short = absurd short
  told_short (p ∷ earlier) told s short =
      let g = at_grown told.told in
      short_whole file (joined_pieces earlier) p.bytes p.room (told_first earlier told.earlier (stays_before g.0 g.1 s)) (piece_told p earlier told s) short

pub stays_whole : {inner : Inner} {old new : DirAt} {most : ℕ} {bytes : List ℕ} (file : List ℕ) → ReadsUp inner most old new bytes → length bytes ≤ most → FileStaysBetween inner file old new → bytes ≡ take most file
stays_whole {inner} {old} {new} {most} {bytes} file r within s = by r.ended
  where
    by : (length bytes ≡ most) ⊎ IsShort r.reads.pieces → bytes ≡ take most file
    by (inl full) =
        let first : bytes ≡ take (length bytes) file = subst (λ (l : List ℕ). l ≡ take (length l) file) (sym r.reads.whole) (told_first old.process inner file old.trace r.reads.pieces r.reads.told s) in
        first ∙ ap (λ (n : ℕ). take n file) full
    by (inr short) =
        let all : bytes ≡ file = r.reads.whole ∙ told_short old.process inner file old.trace r.reads.pieces r.reads.told s short in
        all ∙ sym (taken_past most file (subst (λ (l : List ℕ). length l ≤ most) all within))
