-- The lines of a sweep that one state asks for are one list.
use Rattle.std.proofs.Common.{◌≡◌, ℕ, Bool, true, false, ◌||◌, bytes_eq, Option, Some, List, [], ◌∷◌, ◌++◌, refl, sym, ap, subst, ◌∙◌}
use Rattle.std.specs.List.{AllByRecursion}
use Rattle.std.specs.Cmp.{both_ways}
use Rattle.plain_laws.proofs.Texts.{same_bytes, same_text}
use Rattle.dir_model.specs.declared.area.Area.{Area}
use Rattle.dir_model.specs.declared.area.Area.TheVariants as area
use Rattle.dir_model.specs.declared.pod.PodId.{PodId}
use Rattle.dir_model.specs.Listings.{has_name}
use Rattle.dir_model.specs.Pods.{pod_text, pod_of_text}
use Rattle.dir_model.specs.State.{DirState}
use Rattle.dir_model.proofs.Lists.{or_last}
use Rattle.pod_gc.specs.declared.ages.Times.{Times}
use Rattle.pod_gc.specs.declared.line.Deed.{Deed}
use Rattle.pod_gc.specs.declared.line.GcLine.{GcLine}
use Rattle.pod_gc.specs.Told.{places}
use Rattle.pod_lookup.proofs.InOrder.{one_order}
use Rattle.commands.specs.Gc.{subject_text}
use Rattle.commands.specs.GcLines.{HasLine, is_embryo_held, deed_in_pass, IsPassLine, AreGcPassLines, GatedOr, IsGcPassOf, ArePassesOf, IsSweepOf}
use Rattle.commands.proofs.GcLines.{subjects}
use Rattle.pod_lookup.proofs.Names.{text_back}

-- the lines of one pass

module _ (place : Area) (deeds : PodId → Option Deed) where
  abbrev Line : GcLine → Type 0
  Line = IsPassLine place deeds

  subject_is : (l : GcLine) (x : Line l) → subject_text l.pod l.place ≡ x.name
  subject_is l x = ap (λ (o : Option PodId). subject_text o l.place) x.pod_is ∙ text_back x.name x.pod x.name_is

  -- which a line's uuid tells
  one_line : (k l : GcLine) → Line k → Line l → subject_text k.pod k.place ≡ subject_text l.pod l.place → k ≡ l
  one_line k l x y same =
      let name : x.name ≡ y.name = sym (subject_is k x) ∙ (same ∙ subject_is l y) in
      let pods : Some x.pod ≡ Some y.pod = sym x.name_is ∙ (ap pod_of_text name ∙ y.name_is) in
      let pod : x.pod ≡ y.pod = cc in
      let deeds : Some k.deed ≡ Some l.deed = sym x.deed_is ∙ (ap deeds pod ∙ y.deed_is) in
      let deed : k.deed ≡ l.deed = cc in
      ap (λ (a : Area). let r : GcLine = record { place = a; pod = k.pod; deed = k.deed } in r) (x.place_is ∙ sym y.place_is)
      ∙ (ap (λ (o : Option PodId). let r : GcLine = record { place = l.place; pod = o; deed = k.deed } in r) (x.pod_is ∙ (pods ∙ sym y.pod_is))
      ∙ ap (λ (d : Deed). let r : GcLine = record { place = l.place; pod = l.pod; deed = d } in r) deed)

  same_lines : (ks ls : List GcLine) → AllByRecursion Line ks → AllByRecursion Line ls → subjects ks ≡ subjects ls → ks ≡ ls
  same_lines [] [] x y same = refl
  same_lines [] (l ∷ ls) x y same = cc
  same_lines (k ∷ ks) [] x y same = cc
  same_lines (k ∷ ks) (l ∷ ls) x y same =
      let head : subject_text k.pod k.place ≡ subject_text l.pod l.place = cc in
      let tail : subjects ks ≡ subjects ls = cc in
      ap (λ (z : GcLine). z ∷ ks) (one_line k l x.0 y.0 head) ∙ ap (λ (zs : List GcLine). l ∷ zs) (same_lines ks ls x.1 y.1 tail)

  named_line : (n : List ℕ) (ls : List GcLine) → AllByRecursion Line ls → has_name (subjects ls) n ≡ true → (l : GcLine) × Line l × (subject_text l.pod l.place ≡ n)
  named_line n [] all named = cc
  named_line n (l ∷ ls) all named = by (bytes_eq (subject_text l.pod l.place) n) refl named (λ rest. named_line n ls all.1 rest)
    where
      by : (b : Bool) → bytes_eq (subject_text l.pod l.place) n ≡ b → (b || has_name (subjects ls) n) ≡ true → (has_name (subjects ls) n ≡ true → (k : GcLine) × Line k × (subject_text k.pod k.place ≡ n)) → (k : GcLine) × Line k × (subject_text k.pod k.place ≡ n)
      by true is h go = (l, all.0, same_text (subject_text l.pod l.place) n is)
      by false apart h go = go h

  line_named : (pod : PodId) (ls : List GcLine) → HasLine place pod ls → has_name (subjects ls) (pod_text pod.bytes) ≡ true
  line_named pod ls has = subst (λ (l : List GcLine). has_name (subjects l) (pod_text pod.bytes) ≡ true) (sym has.are) (within has.before)
    where
      within : (before : List GcLine) → has_name (subjects (before ++ has.line ∷ has.after)) (pod_text pod.bytes) ≡ true
      within [] = ap (λ b. b || has_name (subjects has.after) (pod_text pod.bytes)) (ap (λ (o : Option PodId). bytes_eq (subject_text o has.line.place) (pod_text pod.bytes)) has.pod_is ∙ same_bytes (pod_text pod.bytes))
      within (x ∷ xs) = or_last (bytes_eq (subject_text x.pod x.place) (pod_text pod.bytes)) (has_name (subjects (xs ++ has.line ∷ has.after)) (pod_text pod.bytes)) (within xs)

  asked_named : (ks ls : List GcLine) → AreGcPassLines place deeds ks → AreGcPassLines place deeds ls → (n : List ℕ) → has_name (subjects ks) n ≡ true → has_name (subjects ls) n ≡ true
  asked_named ks ls x y n named =
      let k = named_line n ks x.each named in
      let text : pod_text k.1.pod.bytes ≡ n = text_back k.1.name k.1.pod k.1.name_is ∙ (sym (subject_is k.0 k.1) ∙ k.2) in
      subst (λ (z : List ℕ). has_name (subjects ls) z ≡ true) text (line_named k.1.pod ls (y.all k.1.name k.1.pod k.0.deed k.1.name_is k.1.deed_is))

  one_pass : (ks ls : List GcLine) → AreGcPassLines place deeds ks → AreGcPassLines place deeds ls → ks ≡ ls
  one_pass ks ls x y =
      same_lines ks ls x.each y.each
      (one_order (subjects ks) (subjects ls) x.ordered y.ordered (λ n. both_ways (has_name (subjects ks) n) (has_name (subjects ls) n) (λ is. asked_named ks ls x y n is) (λ is. asked_named ls ks y x n is)))

-- of all passes
module _ (times : Times) (me : ℕ) (s : DirState) where
  one_gate : (b : Bool) (ks ls : List GcLine) → GatedOr b ks (AreGcPassLines area.Embryo (deed_in_pass times me area.Embryo s) ks) → GatedOr b ls (AreGcPassLines area.Embryo (deed_in_pass times me area.Embryo s) ls) → ks ≡ ls
  one_gate true ks ls x y = x ∙ sym y
  one_gate false ks ls x y = one_pass area.Embryo (deed_in_pass times me area.Embryo s) ks ls x y

  one_of : (place : Area) (ks ls : List GcLine) → IsGcPassOf times me s place ks → IsGcPassOf times me s place ls → ks ≡ ls
  one_of area.Embryo ks ls x y = one_gate (is_embryo_held me s) ks ls x y
  one_of place ks ls x y = one_pass place (deed_in_pass times me place s) ks ls x y

  one_sweep : (ps : List Area) (ks ls : List GcLine) → ArePassesOf times me s ps ks → ArePassesOf times me s ps ls → ks ≡ ls
  one_sweep [] ks ls x y = x ∙ sym y
  one_sweep (place ∷ ps) ks ls x y =
      x.2 ∙ (ap (λ (own : List GcLine). own ++ x.1) (one_of place x.0 y.0 x.3 y.3) ∙ (ap (λ (others : List GcLine). y.0 ++ others) (one_sweep ps x.1 y.1 x.4 y.4) ∙ sym y.2))

  pub only_sweep : (ks ls : List GcLine) → IsSweepOf times me s ks → IsSweepOf times me s ls → ks ≡ ls
  only_sweep ks ls x y = one_sweep places ks ls x y
