-- The state's own answer is one that the state allows.
use Rattle.std.proofs.Common.{◌≡◌, ◌⊎◌, inl, inr, ℕ, ◌^◌, nat_lt, nat_le, Bool, true, false, not, cond, Option, Some, None, List, length, ◌+◌, find, take, drop, [], ◌∷◌, arith, refl, sym, ap, subst, ◌∙◌}
use Rattle.std.specs.List.{range_with_len}
use Rattle.std.proofs.lemmas.Bool.Decides.{nat_tests}
use Rattle.std.proofs.lemmas.Grind.{common_steps}
use Rattle.plain_laws.proofs.Texts.{same_bytes}
use Rattle.plain_laws.proofs.Booleans.{cond_both}
use Rattle.dir_model.specs.declared.spot.Handle.{Handle}
use Rattle.dir_model.specs.declared.spot.Spot.{Spot}
use Rattle.dir_model.specs.declared.spot.Which.{Which}
use Rattle.dir_model.specs.declared.spot.Which.TheVariants.{Own, Claim}
use Rattle.dir_model.specs.declared.tree.TreeEntry.{TreeEntry}
use Rattle.dir_model.specs.declared.request.DirError.{DirError}
use Rattle.dir_model.specs.declared.request.DirError.TheVariants.{Missing, Exists, NotEmpty, Locked, Failed, NoMemory}
use Rattle.dir_model.specs.declared.request.Request.{Request}
use Rattle.dir_model.specs.declared.request.Request.TheVariants.{Begin, MakeFolder, MoveFolder, Open, OpenArea, TryLock, Close, ListArea, ListIn, MakeDirIn, MakeFileIn, AppendIn, ReadIn, SyncIn, RemoveFileIn, RemoveDirIn, RemoveFolder, Finish, Kill}
use Rattle.dir_model.specs.declared.request.Reply.{Reply}
use Rattle.dir_model.specs.declared.request.Reply.TheVariants.{Done, Begun, Refused}
use Rattle.dir_model.specs.State.{Namespace, DirState, folder_at, has_open}
use Rattle.dir_model.specs.Trees.{content}
use Rattle.dir_model.specs.Listings.{is_listing_request, is_listing}
use Rattle.dir_model.specs.Replies.{is_error, refused_in, make_refusal, file_refusal, sync_refusal, dir_refusal, folder_refusal, open_refusal, refusal, is_reply, is_state_reply, is_any_reply, is_apps_request, asks_for_handle, asks_for_nothing, is_fallible, is_fault, may_refuse, most_left, piece_length, bytes_at}
use Rattle.dir_model.specs.Calls.{may_step, is_allowed, event}
use Rattle.dir_model.proofs.Lists.{and_left, not_true, or_true}
use Rattle.dir_state.specs.Answers.{handle_at, free_handle, opened_or_refused, granted, answer_by, answer, is_met}
use Rattle.dir_state.proofs.Turns.{allowed_by, met_turn, free_turn}

-- what a search finds passes the test
find_passes : (t : ℕ → Bool) (xs : List ℕ) (k : ℕ) → find t xs ≡ Some k → t k ≡ true
find_passes t [] k h = cc
find_passes t (x ∷ xs) k h = by (t x) refl (λ later. find_passes t xs k later) h
  where
    by : (b : Bool) → t x ≡ b → (find t xs ≡ Some k → t k ≡ true) → cond b (Some x) (find t xs) ≡ Some k → t k ≡ true
    by true is later h = let e : x ≡ k = cc in ap t (sym e) ∙ is
    by false is later h = later h

handle_is : (t : Handle → Bool) (o : Option ℕ) (handle : Handle) → ((k : ℕ) → o ≡ Some k → t (record { number = k }) ≡ false) → handle_at o ≡ Some handle → t handle ≡ false
handle_is t None handle free h = cc
handle_is t (Some k) handle free h = by (nat_lt k (2 ^ 32)) h
  where
    by : (b : Bool) → cond b (Some (record { number = k })) None ≡ Some handle → t handle ≡ false
    by true h = let e : record { number = k } ≡ handle = cc in ap t (sym e) ∙ free k refl
    by false h = cc

-- a free handle isn't open
pub free_unopened : (n : Namespace) (p : ℕ) (handle : Handle) → free_handle n p ≡ Some handle → has_open n p handle ≡ false
free_unopened n p handle h =
    handle_is (has_open n p) (find (λ k. not (has_open n p (record { number = k }))) (range_with_len 0 (length n.openings + 1))) handle
    (λ k found. not_true (has_open n p (record { number = k })) (find_passes (λ k. not (has_open n p (record { number = k }))) (range_with_len 0 (length n.openings + 1)) k found)) h

error_is : (error : DirError) → is_error error (Some error) ≡ true
error_is Missing = refl
error_is Exists = refl
error_is NotEmpty = refl
error_is Locked = refl
error_is Failed = refl
error_is NoMemory = refl

-- the refusals that come from the state
abbrev pub IsRefusal : Request → DirError → Type 0
IsRefusal request error = (may_refuse request error ≡ true) × (is_fault error ≡ false)

cond_error : (b : Bool) (e error : DirError) → cond b (Some e) None ≡ Some error → error ≡ e
cond_error true e error h = cc
cond_error false e error h = cc

cond_no_error : (b : Bool) (e error : DirError) → cond b None (Some e) ≡ Some error → error ≡ e
cond_no_error true e error h = cc
cond_no_error false e error h = cc

move_error : (from to : Bool) (error : DirError) → cond from (cond to (Some Exists) None) (Some Missing) ≡ Some error → (error ≡ Exists) ⊎ (error ≡ Missing)
move_error true true error h = inl cc
move_error true false error h = cc
move_error false to error h = inr cc

make_error : (taken parent : Bool) (error : DirError) → cond taken (Some Exists) (cond parent None (Some Missing)) ≡ Some error → (error ≡ Exists) ⊎ (error ≡ Missing)
make_error true parent error h = inl cc
make_error false true error h = cc
make_error false false error h = inr cc

dir_error : (dir held : Bool) (error : DirError) → cond dir (cond held (Some NotEmpty) None) (Some Missing) ≡ Some error → (error ≡ NotEmpty) ⊎ (error ≡ Missing)
dir_error true true error h = inl cc
dir_error true false error h = cc
dir_error false held error h = inr cc

none_error : {X : Type 0} (error : DirError) → None ≡ Some error → X
none_error error h = cc

-- of two refusals
one_of : (request : Request) (a b error : DirError) → IsRefusal request a → IsRefusal request b → (error ≡ a) ⊎ (error ≡ b) → IsRefusal request error
one_of request a b error p q (inl is) = subst (λ (e : DirError). IsRefusal request e) (sym is) p
one_of request a b error p q (inr is) = subst (λ (e : DirError). IsRefusal request e) (sym is) q

-- where no folder stands, or by the folder that does
refused_by : (request : Request) (refuses : List TreeEntry → ℕ → Option DirError) (es : List TreeEntry) (o : Option ℕ) (error : DirError) → IsRefusal request Missing → ((folder : ℕ) → refuses es folder ≡ Some error → IsRefusal request error) → refused_in refuses es o ≡ Some error → IsRefusal request error
refused_by request refuses es None error missing by h = let e : Missing ≡ error = cc in subst (λ (x : DirError). IsRefusal request x) e missing
refused_by request refuses es (Some folder) error missing by h = by folder h

same_refusal : (request : Request) (a error : DirError) → IsRefusal request a → error ≡ a → IsRefusal request error
same_refusal request a error p is = subst (λ (e : DirError). IsRefusal request e) (sym is) p

open_named : (spot : Spot) (which : Which) (es : List TreeEntry) (folder : ℕ) (error : DirError) → open_refusal which es folder ≡ Some error → IsRefusal (Open spot which) error
open_named spot Own es folder error h = none_error error h
open_named spot Claim es folder error h = same_refusal (Open spot Claim) Missing error (refl, refl) (cond_no_error _ _ _ h)

pub refusal_named : (s : DirState) (p : ℕ) (request : Request) (error : DirError) → refusal s p request ≡ Some error → IsRefusal request error
refusal_named s p (MakeFolder spot) error h = same_refusal (MakeFolder spot) Exists error (refl, refl) (cond_error _ _ _ h)
refusal_named s p (MoveFolder from to) error h = one_of (MoveFolder from to) Exists Missing error (refl, refl) (refl, refl) (move_error _ _ error h)
refusal_named s p (Open spot which) error h = refused_by (Open spot which) (open_refusal which) s.entries (folder_at s.namespace spot) error (refl, refl) (λ folder r. open_named spot which s.entries folder error r) h
refusal_named s p (TryLock handle mode) error h = same_refusal (TryLock handle mode) Locked error (refl, refl) (cond_error _ _ _ h)
refusal_named s p (MakeDirIn inner) error h = refused_by (MakeDirIn inner) (make_refusal inner.path) s.entries (folder_at s.namespace inner.spot) error (refl, refl) (λ folder r. one_of (MakeDirIn inner) Exists Missing error (refl, refl) (refl, refl) (make_error _ _ error r)) h
refusal_named s p (MakeFileIn inner) error h = refused_by (MakeFileIn inner) (make_refusal inner.path) s.entries (folder_at s.namespace inner.spot) error (refl, refl) (λ folder r. one_of (MakeFileIn inner) Exists Missing error (refl, refl) (refl, refl) (make_error _ _ error r)) h
refusal_named s p (AppendIn inner piece) error h = refused_by (AppendIn inner piece) (file_refusal inner.path) s.entries (folder_at s.namespace inner.spot) error (refl, refl) (λ folder r. same_refusal (AppendIn inner piece) Missing error (refl, refl) (cond_no_error _ _ _ r)) h
refusal_named s p (ReadIn inner at room) error h = refused_by (ReadIn inner at room) (file_refusal inner.path) s.entries (folder_at s.namespace inner.spot) error (refl, refl) (λ folder r. same_refusal (ReadIn inner at room) Missing error (refl, refl) (cond_no_error _ _ _ r)) h
refusal_named s p (SyncIn inner) error h = refused_by (SyncIn inner) (sync_refusal inner.path) s.entries (folder_at s.namespace inner.spot) error (refl, refl) (λ folder r. same_refusal (SyncIn inner) Missing error (refl, refl) (cond_no_error _ _ _ r)) h
refusal_named s p (RemoveFileIn inner) error h = refused_by (RemoveFileIn inner) (file_refusal inner.path) s.entries (folder_at s.namespace inner.spot) error (refl, refl) (λ folder r. same_refusal (RemoveFileIn inner) Missing error (refl, refl) (cond_no_error _ _ _ r)) h
refusal_named s p (RemoveDirIn inner) error h = refused_by (RemoveDirIn inner) (dir_refusal inner.path) s.entries (folder_at s.namespace inner.spot) error (refl, refl) (λ folder r. one_of (RemoveDirIn inner) NotEmpty Missing error (refl, refl) (refl, refl) (dir_error _ _ error r)) h
refusal_named s p (RemoveFolder spot) error h = refused_by (RemoveFolder spot) folder_refusal s.entries (folder_at s.namespace spot) error (refl, refl) (λ folder r. same_refusal (RemoveFolder spot) NotEmpty error (refl, refl) (cond_error _ _ _ r)) h
refusal_named s p _ error h = none_error error h

-- what the state gives

none_left : (n : ℕ) → nat_le 0 n ≡ true
none_left n = grind (arith, nat_tests)

short : (room : ℕ) (bytes : List ℕ) → nat_le (length (take room bytes)) room ≡ true
short room bytes = grind (arith, nat_tests, common_steps)

short_at : (es : List TreeEntry) (path : List ℕ) (at room : ℕ) (o : Option ℕ) → nat_le (length (bytes_at es path at room o)) room ≡ true
short_at es path at room None = none_left room
short_at es path at room (Some folder) = short room (drop at (content es folder path))

-- a refusal by the state
state_refused : (s : DirState) (p : ℕ) (request : Request) (error : DirError) → is_listing_request request ≡ false → refusal s p request ≡ Some error → is_state_reply s p request (Refused error 0) ≡ true
state_refused s p request error plain refused = rw (plain, refused, error_is error) (or_true _)

any_refused : (s : DirState) (p : ℕ) (request : Request) (error : DirError) → is_listing_request request ≡ false → may_refuse request error ≡ true → is_any_reply s p request (Refused error 0) ≡ true
any_refused s p (ListIn inner) error plain may = cc
any_refused s p request error plain may = rw may (none_left (piece_length request))

reply_refused : (s : DirState) (p : ℕ) (request : Request) (error : DirError) → is_listing_request request ≡ false → refusal s p request ≡ Some error → is_reply s p request (Refused error 0) ≡ true
reply_refused s p request error plain refused =
    cond_both (is_apps_request s request) (is_any_reply s p request (Refused error 0)) (is_state_reply s p request (Refused error 0))
    (any_refused s p request error plain (refusal_named s p request error refused).0) (state_refused s p request error plain refused)

opened_by : (s : DirState) (p : ℕ) (request : Request) (h : Option Handle) → asks_for_handle request ≡ true → is_listing_request request ≡ false → is_fallible request ≡ true → refusal s p request ≡ None → ((handle : Handle) → h ≡ Some handle → has_open s.namespace p handle ≡ false) → is_state_reply s p request (opened_or_refused h) ≡ true
opened_by s p request None asks plain fallible granted free = rw (plain, fallible, none_left (most_left s request)) refl
opened_by s p request (Some handle) asks plain fallible granted free = rw (granted, asks, free handle refl) refl

done_by : (s : DirState) (p : ℕ) (request : Request) → asks_for_nothing request ≡ true → refusal s p request ≡ None → is_reply s p request Done ≡ true
done_by s p request nothing granted = cond_both (is_apps_request s request) (is_any_reply s p request Done) (is_state_reply s p request Done) nothing (rw (granted, nothing) refl)

reply_granted : (s : DirState) (p : ℕ) (request : Request) → is_listing_request request ≡ false → refusal s p request ≡ None → is_reply s p request (granted s p request) ≡ true
reply_granted s p (Open spot which) plain none = opened_by s p (Open spot which) (free_handle s.namespace p) refl refl refl none (λ handle found. free_unopened s.namespace p handle found)
reply_granted s p (OpenArea area) plain none = opened_by s p (OpenArea area) (free_handle s.namespace p) refl refl refl none (λ handle found. free_unopened s.namespace p handle found)
reply_granted s p (ReadIn inner at room) plain none =
    cond_both (is_apps_request s (ReadIn inner at room)) (is_any_reply s p (ReadIn inner at room) (granted s p (ReadIn inner at room))) (is_state_reply s p (ReadIn inner at room) (granted s p (ReadIn inner at room)))
    (short_at s.entries inner.path at room (folder_at s.namespace inner.spot)) (rw none (same_bytes (bytes_at s.entries inner.path at room (folder_at s.namespace inner.spot))))
reply_granted s p (ListArea area) plain none = cc
reply_granted s p (ListIn inner) plain none = cc
reply_granted s p request plain none = done_by s p request refl none

reply_begun : (s : DirState) (p : ℕ) (request : Request) → is_listing_request request ≡ true → is_listing s p ≡ false → is_reply s p request Begun ≡ true
reply_begun s p request asks none = cond_both (is_apps_request s request) (is_any_reply s p request Begun) (is_state_reply s p request Begun) (rw (asks, none) refl) (rw (asks, none) refl)

-- the answer to what isn't a listing
reply_plain : (s : DirState) (p : ℕ) (request : Request) (r : Option DirError) → is_listing_request request ≡ false → refusal s p request ≡ r → is_reply s p request (answer_by r (granted s p request)) ≡ true
reply_plain s p request (Some error) plain is = reply_refused s p request error plain is
reply_plain s p request None plain is = reply_granted s p request plain is

pub not_listing : (s : DirState) (p : ℕ) (request : Request) → is_listing_request request ≡ true → is_met s p request ≡ true → is_listing s p ≡ false
not_listing s p (ListArea area) asks met = not_true (is_listing s p) (and_left (not (is_listing s p)) true met)
not_listing s p (ListIn inner) asks met = not_true (is_listing s p) (and_left (not (is_listing s p)) true met)
not_listing s p _ asks met = cc

pub answer_is_reply : (s : DirState) (p : ℕ) (request : Request) → is_met s p request ≡ true → is_reply s p request (answer s p request) ≡ true
answer_is_reply s p request met = by (is_listing_request request) refl
  where
    by : (b : Bool) → is_listing_request request ≡ b → is_reply s p request (cond b Begun (answer_by (refusal s p request) (granted s p request))) ≡ true
    by true asks = reply_begun s p request asks (not_listing s p request asks met)
    by false plain = reply_plain s p request (refusal s p request) plain refl

pub answer_allowed : (s : DirState) (p : ℕ) (request : Request) → may_step s p request ≡ true → is_met s p request ≡ true → is_allowed s (event p request (answer s p request)) ≡ true
answer_allowed s p request may met = allowed_by s p request (answer s p request) may (met_turn s p request met) (answer_is_reply s p request met)

fails : (request : Request) → is_fallible request ≡ true → may_refuse request Failed ≡ true
fails (Begin intent) h = cc
fails (Close handle) h = cc
fails Finish h = cc
fails Kill h = cc
fails _ h = refl

runs_out : (request : Request) → is_fallible request ≡ true → may_refuse request NoMemory ≡ true
runs_out (Begin intent) h = cc
runs_out (Close handle) h = cc
runs_out Finish h = cc
runs_out Kill h = cc
runs_out _ h = refl

-- a fault is a refusal of each call that may fail
pub fault_named : (request : Request) (error : DirError) → is_fallible request ≡ true → is_fault error ≡ true → may_refuse request error ≡ true
fault_named request Failed fallible fault = fails request fallible
fault_named request NoMemory fallible fault = runs_out request fallible
fault_named request _ fallible fault = cc

-- a call that may fail may always be refused so, where it is no listing and none is open
pub fault_allowed : (s : DirState) (p : ℕ) (request : Request) (error : DirError) → may_step s p request ≡ true → is_listing s p ≡ false → is_listing_request request ≡ false → is_fallible request ≡ true → is_fault error ≡ true → is_allowed s (event p request (Refused error 0)) ≡ true
fault_allowed s p request error may none plain fallible fault =
    allowed_by s p request (Refused error 0) may (free_turn s p request none)
    (cond_both (is_apps_request s request) (is_any_reply s p request (Refused error 0)) (is_state_reply s p request (Refused error 0))
    (any_refused s p request error plain (fault_named request error fallible fault)) (rw (plain, fallible, fault, none_left (most_left s request)) refl))

-- the same of a copy of the request
pub asked_allowed : (s : DirState) (p : ℕ) (request copy : Request) (reply : Reply) → may_step s p request ≡ true → is_met s p request ≡ true → copy ≡ request → reply ≡ answer s p request → is_allowed s (event p copy reply) ≡ true
asked_allowed s p request copy reply may met same is = rw (same, is) (answer_allowed s p request may met)

-- what isn't a listing needs no more than that the process may and has none open
pub plain_allowed : (s : DirState) (p : ℕ) (request : Request) → may_step s p request ≡ true → is_listing s p ≡ false → is_listing_request request ≡ false → is_allowed s (event p request (answer s p request)) ≡ true
plain_allowed s p request may none plain = allowed_by s p request (answer s p request) may (free_turn s p request none) (rw plain (reply_plain s p request (refusal s p request) plain refl))
