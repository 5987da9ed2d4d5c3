-- A loop over labels, and the words on their places.
use Rattle.std.proofs.Common.{◌≡◌, ℕ, ◌<◌, ◌||◌, Bool, true, false, List, [], ◌∷◌, Some, None, get_or, length, map, take, codes, refl, sym, ◌∙◌, arith, ap, ◌≤◌}
use Rattle.std.specs.Prelude.{if◌then◌else◌}
use Rattle.std.proofs.Common.{Bor, nat_eq}
use Rattle.std.proofs.lemmas.Bool.Decides.{nat_tests}
use Rattle.std.specs.List.{list_any}
use Rattle.std.proofs.lemmas.List.{get_or-map, length-map}
use Rattle.ac_types.specs.Labels.{name_at, value_at, place_of, is_reserved, came_before, name_fault, architectures, platform_fault}
use Rattle.std.specs.Str.{bytes_eq}
use Rattle.ac_types.specs.declared.label.Label.{Label}
use Rattle.ac_types.specs.declared.label.LabelFault.TheVariants.{LabelTwice, LabelName, BadArch}
use Rattle.ac_types.proofs.LeastPlace.{first_none, first_found}

-- what a read of a label says of its place
pub name_read : (ls : List Label) (k : ℕ) (l : Label) → k < length ls → l ≡ get_or ls k l → name_at ls k ≡ l.name
name_read ls k l h is = get_or-map (λ (m : Label). m.name) ls k l [] h ∙ ap (λ (m : Label). m.name) (sym is)

pub value_read : (ls : List Label) (k : ℕ) (l : Label) → k < length ls → l ≡ get_or ls k l → value_at ls k ≡ l.value
value_read ls k l h is = get_or-map (λ (m : Label). m.value) ls k l [] h ∙ ap (λ (m : Label). m.value) (sym is)

-- the names before a place are all others than this
abbrev pub AllOthers : List ℕ → List Label → ℕ → Type 0
AllOthers name ls i = (k : ℕ) → k < i → bytes_eq (name_at ls k) name ≡ false

pub place_found : (name : List ℕ) (ls : List Label) (i : ℕ) → AllOthers name ls i → i < length ls
    → bytes_eq (name_at ls i) name ≡ true → Some i ≡ place_of name ls
place_found name ls i others within here =
    sym (first_found (λ k. bytes_eq (name_at ls k) name) (length ls) i others within here)

pub place_none : (name : List ℕ) (ls : List Label) (i : ℕ) → AllOthers name ls i → length ls ≤ i → None ≡ place_of name ls
place_none name ls i others past =
    sym (first_none (λ k. bytes_eq (name_at ls k) name) (length ls) (λ k h. others k (omega arith)))

-- the names before a place may all stand
abbrev pub AllStand : List Label → ℕ → Type 0
AllStand ls i = (k : ℕ) → k < i → (is_reserved ls k || came_before ls k) ≡ false

pub no_name_fault : (ls : List Label) (i : ℕ) → AllStand ls i → length ls ≤ i → name_fault ls ≡ None
no_name_fault ls i stand past =
    let none = first_none (λ k. is_reserved ls k || came_before ls k) (length ls) (λ k h. stand k (omega arith)) in
    rw none refl

pub reserved_found : (ls : List Label) (i : ℕ) → AllStand ls i → i < length ls → is_reserved ls i ≡ true
    → name_fault ls ≡ Some (LabelName i)
reserved_found ls i stand within here =
    let either : (is_reserved ls i || came_before ls i) ≡ true = rw here refl in
    let found = first_found (λ k. is_reserved ls k || came_before ls k) (length ls) i stand within either in
    rw (found, here) refl

pub twice_found : (ls : List Label) (i : ℕ) → AllStand ls i → i < length ls → is_reserved ls i ≡ false → came_before ls i ≡ true
    → name_fault ls ≡ Some (LabelTwice i)
twice_found ls i stand within not_it here =
    let either : (is_reserved ls i || came_before ls i) ≡ true = rw (not_it, here) refl in
    let found = first_found (λ k. is_reserved ls k || came_before ls k) (length ls) i stand within either in
    rw (found, not_it) refl

pub both_stand : (ls : List Label) (i : ℕ) → is_reserved ls i ≡ false → came_before ls i ≡ false
    → (is_reserved ls i || came_before ls i) ≡ false
both_stand ls i one other = rw (one, other) refl

-- what a look among the labels before a place says, by the name that was read there
pub before : (ls : List Label) (i : ℕ) {name : List ℕ} {b : Bool} → name_at ls i ≡ name
    → list_any (λ (l : Label). bytes_eq l.name name) (take i ls) ≡ b → came_before ls i ≡ b
before ls i {name} {b} is found =
    ap (λ (n : List ℕ). list_any (λ (l : Label). bytes_eq l.name n) (take i ls)) is
    ∙ found

-- a test of the texts that references show
pub any_now : (p : List ℕ → Bool) (ts : List (Bor (List ℕ)))
    → list_any (λ (t : Bor (List ℕ)). p t.now) ts ≡ list_any p (map (λ (t : Bor (List ℕ)). t.now) ts)
any_now p [] = refl
any_now p (t ∷ ts) = ap (λ (b : Bool). p t.now || b) (any_now p ts)

-- `os` and `arch` are there, and the system is known
pub arch_judged : (ls : List Label) (os arch : ℕ) (known : List (List ℕ)) (b : Bool)
    → Some os ≡ place_of (codes "os") ls → Some arch ≡ place_of (codes "arch") ls
    → known ≡ architectures (value_at ls os) → 0 < length known
    → list_any (λ (a : List ℕ). bytes_eq a (value_at ls arch)) known ≡ b
    → platform_fault ls ≡ (if b then None else Some (BadArch arch))
arch_judged ls os arch [] b at_os at_arch is some among = absurd (omega arith)
arch_judged ls os arch (a ∷ known) b at_os at_arch is some among =
    rw (← at_os, ← is, ← at_arch, among) refl

pub value_at_is : (ls : List Label) (k : ℕ) (l : Label) → k < length ls → (get_or ls k l).value ≡ value_at ls k
value_at_is ls k l h = sym (get_or-map (λ (m : Label). m.value) ls k l [] h)

-- the same, by what the calls said
pub platform_judged : (ls : List Label) (os arch : ℕ) (known : List (Bor (List ℕ))) (b : Bool) {name value : List ℕ}
    → Some os ≡ place_of (codes "os") ls → Some arch ≡ place_of (codes "arch") ls
    → name ≡ value_at ls os → value ≡ value_at ls arch
    → map (λ (t : Bor (List ℕ)). t.now) known ≡ architectures name → nat_eq (length known) 0 ≡ false
    → list_any (λ (t : Bor (List ℕ)). bytes_eq t.now value) known ≡ b
    → platform_fault ls ≡ (if b then None else Some (BadArch arch))
platform_judged ls os arch known b {name} {value} at_os at_arch name_is value_is is some among =
    let more : 0 < length known = grind (arith, nat_tests) in
    arch_judged ls os arch (map (λ (t : Bor (List ℕ)). t.now) known) b at_os at_arch (is ∙ ap architectures name_is)
    (rw length-map more)
    (sym (any_now (λ (a : List ℕ). bytes_eq a (value_at ls arch)) known)
    ∙ ap (λ (v : List ℕ). list_any (λ (t : Bor (List ℕ)). bytes_eq t.now v) known) (sym value_is) ∙ among)
