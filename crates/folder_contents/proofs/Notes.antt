-- What the local rules let a process change in a pod that stands in prepared or in run: notes alone.
use Rattle.std.proofs.Common.{arith, ◌≡◌, ℕ, zero, suc, ◌/◌, ◌%◌, ◌+◌, ◌<◌, Bool, true, false, not, ◌&&◌, ◌||◌, ◌==◌, cond, bytes_eq, Option, Some, None, List, [], ◌∷◌, ◌++◌, codes, length, nat_lt, drop, refl, sym, ap, subst, ◌∙◌}
use Rattle.std.specs.List.{list_all}
use Rattle.std.proofs.lemmas.Bool.Decides.{nat_tests}
use Rattle.std.proofs.lemmas.Bool.{and_parts}
use native.Mathlib.Nat.{mod-lt}
use Rattle.plain_laws.proofs.Texts.{same_text}
use Rattle.dir_model.specs.declared.area.Area.{Area}
use Rattle.dir_model.specs.declared.area.Area.TheVariants.{Prepare, Prepared, Run, ExitedGarbage, Garbage, Removed}
use Rattle.dir_model.specs.declared.intent.Intent.{Intent}
use Rattle.dir_model.specs.declared.item.Inner.{Inner}
use Rattle.dir_model.specs.declared.spot.Spot.{Spot}
use Rattle.dir_model.specs.declared.opening.Target.{Target}
use Rattle.dir_model.specs.declared.opening.Target.TheVariants.{Own, Claim, Gate}
use Rattle.dir_model.specs.declared.request.Request.TheVariants.{MakeDirIn, MakeFileIn, AppendIn}
use Rattle.dir_model.specs.Locks.{is_exclusive}
use Rattle.dir_model.specs.Paths.{is_slash}
use Rattle.dir_model.specs.Trees.{mark_prefix}
use Rattle.dir_model.proofs.Lists.{and_left, and_right, and_both, or_none, or_last}
use Rattle.dir_rules.specs.declared.seen.Seen.{Seen}
use Rattle.dir_rules.specs.declared.standing.Standing.{Standing}
use Rattle.dir_rules.specs.Marks.{has_slash, begins, digits, marked_mark, is_started_mark, is_status_file, is_below_status, is_later_mark}
use Rattle.dir_rules.specs.Seen.{is_own_mark, is_free}
use Rattle.dir_rules.specs.Standing.{began_as, is_remover}
use Rattle.dir_rules.specs.LockRules.{lock_rules_allow, may_remove, is_removal_held, is_removal_target}
use Rattle.dir_rules.specs.Rules.{allows, content_rules_allow, may_note, may_mark, has_note, runs, makes_here, may_make_dir, may_make_file_in, may_append_in}
use Rattle.lifecycle.proofs.Lists.{any_in}
use Rattle.folder_contents.specs.Filled.{is_after_handover, is_note}

-- no digit is a slash
abbrev no_slash_byte : ℕ → Bool
no_slash_byte b = not (is_slash b)

digit_plain : (n : ℕ) → n < 10 → no_slash_byte (48 + n) ≡ true
digit_plain n h = grind (arith, nat_tests)

push_plain : (bs : List ℕ) (b : ℕ) → list_all no_slash_byte bs ≡ true → no_slash_byte b ≡ true → list_all no_slash_byte (bs ++ b ∷ []) ≡ true
push_plain [] b p q = and_both (no_slash_byte b) true q refl
push_plain (x ∷ bs) b p q =
    and_both (no_slash_byte x) (list_all no_slash_byte (bs ++ b ∷ [])) (and_left (no_slash_byte x) (list_all no_slash_byte bs) p)
    (push_plain bs b (and_right (no_slash_byte x) (list_all no_slash_byte bs) p) q)

digits_plain : (k n : ℕ) → list_all no_slash_byte (digits k n) ≡ true
digits_plain zero n = refl
digits_plain (suc k) n = push_plain (digits k (n / 10)) (48 + n % 10) (digits_plain k (n / 10)) (digit_plain (n % 10) (mod-lt n (omega arith)))

plain_slash : (b : ℕ) → no_slash_byte b ≡ true → is_slash b ≡ false
plain_slash b h = off (is_slash b) h
  where
    off : (x : Bool) → not x ≡ true → x ≡ false
    off true h = cc
    off false h = refl

no_slashes : (bs : List ℕ) → list_all no_slash_byte bs ≡ true → has_slash bs ≡ false
no_slashes [] p = refl
no_slashes (b ∷ bs) p =
    or_none (is_slash b) (has_slash bs) (plain_slash b (and_left (no_slash_byte b) (list_all no_slash_byte bs) p))
    (no_slashes bs (and_right (no_slash_byte b) (list_all no_slash_byte bs) p))

-- the mark of a remover is a note
mark_note : (now : ℕ) → is_note (marked_mark now) ≡ true
mark_note now = by (has_slash (marked_mark now)) (no_slashes (marked_mark now) (digits_plain 20 now))
  where
    by : (s : Bool) → s ≡ false → (cond s false true || is_below_status (marked_mark now)) ≡ true
    by false e = refl
    by true e = cc

own_note : (o : Option Intent) (path : List ℕ) → is_own_mark o path ≡ true → is_note path ≡ true
own_note None path h = cc
own_note (Some intent) path h = subst (λ (p : List ℕ). is_note p ≡ true) (sym (same_text path (marked_mark intent.now) h)) (mark_note intent.now)

-- the mark of a started app is one, and the file of a status
started : (a b s m z : Bool) → (a && b && not s) ≡ true → (cond s false (cond a true m) || z) ≡ true
started true true false m z h = refl
started true true true m z h = cc
started true false s m z h = cc
started false b s m z h = cc

first : (a b c : Bool) → (a && b && c) ≡ true → a ≡ true
first true b c h = refl
first false b c h = cc

started_note : (path : List ℕ) → is_started_mark path ≡ true → is_note path ≡ true
started_note path h = started (begins mark_prefix path) (nat_lt 8 (length path)) (has_slash path) (begins (codes "marked-") path) (is_below_status path) h

status_note : (path : List ℕ) → is_status_file path ≡ true → is_note path ≡ true
status_note path h = or_last (is_later_mark path) (is_below_status path) (first (begins (codes "stage1/rootfs/rkt/status/") path) (nat_lt 25 (length path)) (not (has_slash (drop 25 path))) h)

either_note : (a b : Bool) (path : List ℕ) → (a ≡ true → is_note path ≡ true) → (b ≡ true → is_note path ≡ true) → (a || b) ≡ true → is_note path ≡ true
either_note true b path f g h = f refl
either_note false b path f g h = g h

-- a file that is made there
pub make_note : (g : Seen) (i : Inner) → is_after_handover i.spot.area ≡ true → allows g (MakeFileIn i) ≡ true → is_note i.path ≡ true
make_note g i filled may =
    by i.spot.area filled (and_left (may_make_file_in g i i.spot.area) _ (and_right (lock_rules_allow g.standing (MakeFileIn i)) (content_rules_allow g (MakeFileIn i)) may))
  where
    by : (a : Area) → is_after_handover a ≡ true → may_make_file_in g i a ≡ true → is_note i.path ≡ true
    by Prepared f h = cc
    by Run f h =
        either_note (may_note g i) (may_mark g i) i.path
        (λ n. either_note (is_started_mark i.path) (is_status_file i.path) i.path (started_note i.path) (status_note i.path)
        (and_left (is_started_mark i.path || is_status_file i.path) (not (has_note g i)) (and_right (runs g i.spot.name) _ n)))
        (λ m. own_note g.standing.intent i.path (and_left (is_own_mark g.standing.intent i.path) (is_free g i.spot) (and_right (began_as is_remover g.standing) _ m)))
        h
    by a f h = cc

-- a file that is appended to there
pub append_note : (g : Seen) (i : Inner) (piece : List ℕ) → is_after_handover i.spot.area ≡ true → allows g (AppendIn i piece) ≡ true → is_note i.path ≡ true
append_note g i piece filled may =
    by i.spot.area filled (and_left (may_append_in g i i.spot.area) _ (and_right (lock_rules_allow g.standing (AppendIn i piece)) (content_rules_allow g (AppendIn i piece)) may))
  where
    by : (a : Area) → is_after_handover a ≡ true → may_append_in g i a ≡ true → is_note i.path ≡ true
    by Prepared f h = cc
    by Run f h = status_note i.path (and_left (is_status_file i.path) (has_note g i) (and_right (runs g i.spot.name) _ h))
    by a f h = cc

-- no directory is made there
pub no_directory : (g : Seen) (i : Inner) → is_after_handover i.spot.area ≡ true → allows g (MakeDirIn i) ≡ true → ⊥
no_directory g i filled may =
    by i.spot.area filled (and_left _ _ (and_left (may_make_dir g i) _ (and_right (lock_rules_allow g.standing (MakeDirIn i)) (content_rules_allow g (MakeDirIn i)) may)))
  where
    by : (a : Area) → is_after_handover a ≡ true → makes_here g i.spot a ≡ true → ⊥
    by Prepared f h = cc
    by Run f h = cc
    by a f h = cc

-- nothing is removed there
pub no_removal : (k : Standing) (spot : Spot) → may_remove k spot ≡ true → is_after_handover spot.area ≡ false
no_removal k spot h =
    let e = any_in (is_removal_held spot) k.holdings h in
    by e.0.target spot.area (and_parts (is_exclusive e.0.lock) (is_removal_target spot e.0.target) e.1.1).1
  where
    by : (t : Target) (a : Area) → is_removal_target (record { area = a; name = spot.name }) t ≡ true → is_after_handover a ≡ false
    by (Own here) ExitedGarbage h = refl
    by (Own here) Garbage h = refl
    by (Own here) a h = cc
    by (Claim here) a h = cc
    by (Gate gate) Removed h = refl
    by (Gate gate) a h = cc
