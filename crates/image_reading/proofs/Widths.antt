-- What came about in a part of a time came about in the whole.
use Rattle.std.proofs.Common.{◌≡◌, inl, inr, Bool, true, ℕ, List, [], ◌++◌, refl, sym, ap, ◌∙◌, append-nil, append_assoc}
use Rattle.dir_model.specs.declared.item.Inner.{Inner}
use Rattle.dir_model.specs.declared.request.Request.{Request}
use Rattle.dir_model.specs.State.{DirState}
use Rattle.dir_model.specs.Calls.{Extends}
use Rattle.dir_model.proofs.Moments.{at_after, at_before}
use Rattle.dir_trait.specs.DirCalls.{DirAt, HeldBetween}
use Rattle.dir_trait.specs.Effects.{OnlyAsksAndKeeps}
use Rattle.ac_types.specs.declared.store_key.StoreKey.{StoreKey}
use Rattle.image_reading.specs.Within.{Within}
use Rattle.image_reading.specs.Files.{ReadsFile, LacksFile, ShowsImportMarks}

pub within_self : {R : DirAt → DirAt → Type 0} {old new : DirAt} → R old new → Within R old new
within_self {R} {old} {new} r = record { first = old; last = new; earlier = []; later = []; same = refl; begins = sym (append-nil old.trace); ends = sym (append-nil new.trace); told = r }

pub within_after : {asks : Request → Bool} {R : DirAt → DirAt → Type 0} {a b c : DirAt} → Extends asks a.process a.trace b.trace → b.process ≡ a.process → Within R b c → Within R a c
within_after {asks} {R} {a} {b} {c} ab same w = record {
  first = w.first;
  last = w.last;
  earlier = ab.more ++ w.earlier;
  later = w.later;
  same = w.same ∙ same;
  begins = w.begins ∙ (ap (λ h. h ++ w.earlier) ab.grown ∙ append_assoc a.trace ab.more w.earlier);
  ends = w.ends;
  told = w.told;
}

pub within_before : {asks : Request → Bool} {R : DirAt → DirAt → Type 0} {a b c : DirAt} → Within R a b → Extends asks b.process b.trace c.trace → Within R a c
within_before {asks} {R} {a} {b} {c} w bc = record {
  first = w.first;
  last = w.last;
  earlier = w.earlier;
  later = w.later ++ bc.more;
  same = w.same;
  begins = w.begins;
  ends = bc.grown ∙ (ap (λ h. h ++ bc.more) w.ends ∙ append_assoc w.last.trace w.later bc.more);
  told = w.told;
}

module _ {observed : Bool} {asks : Request → Bool} {Keeps : DirAt → DirAt → Type 0} (t : observed ≡ true) where
  pub held_after : {a b : DirAt} (c : DirAt) {P : DirState → Type 0} → OnlyAsksAndKeeps observed asks Keeps a b → HeldBetween b c P → HeldBetween a c P
  held_after c ab h = at_after (ab.extends t) ab.same h

  pub held_before : (a : DirAt) {b c : DirAt} {P : DirState → Type 0} → b.process ≡ a.process → HeldBetween a b P → OnlyAsksAndKeeps observed asks Keeps b c → HeldBetween a c P
  held_before a same h bc = at_before h same (bc.extends t)

  pub told_after : {R : DirAt → DirAt → Type 0} {a b c : DirAt} → OnlyAsksAndKeeps observed asks Keeps a b → Within R b c → Within R a c
  told_after ab w = within_after (ab.extends t) ab.same w

  pub told_before : {R : DirAt → DirAt → Type 0} {a b c : DirAt} → Within R a b → OnlyAsksAndKeeps observed asks Keeps b c → Within R a c
  told_before w bc = within_before w (bc.extends t)

  pub file_after : {inner : Inner} {most : ℕ} {P : List ℕ → Type 0} {a b c : DirAt} → OnlyAsksAndKeeps observed asks Keeps a b → ReadsFile inner most P b c → ReadsFile inner most P a c
  file_after ab r = record { bytes = r.bytes; few = r.few; read = told_after ab r.read; holds = r.holds }

  pub file_before : {inner : Inner} {most : ℕ} {P : List ℕ → Type 0} {a b c : DirAt} → ReadsFile inner most P a b → OnlyAsksAndKeeps observed asks Keeps b c → ReadsFile inner most P a c
  file_before r bc = record { bytes = r.bytes; few = r.few; read = told_before r.read bc; holds = r.holds }

  pub lack_after : (inner : Inner) (most : ℕ) (P : List ℕ → Type 0) {a b : DirAt} (c : DirAt) → OnlyAsksAndKeeps observed asks Keeps a b → LacksFile inner most P b c → LacksFile inner most P a c
  lack_after inner most P c ab (inl missing) = inl (held_after c ab missing)
  lack_after inner most P c ab (inr read) = inr (file_after ab read)

  pub lack_before : (inner : Inner) (most : ℕ) (P : List ℕ → Type 0) (a : DirAt) {b c : DirAt} → b.process ≡ a.process → LacksFile inner most P a b → OnlyAsksAndKeeps observed asks Keeps b c → LacksFile inner most P a c
  lack_before inner most P a same (inl missing) bc = inl (held_before a same missing bc)
  lack_before inner most P a same (inr read) bc = inr (file_before read bc)

  pub marks_after : {key : StoreKey} {P : List ℕ → Type 0} {a b c : DirAt} → OnlyAsksAndKeeps observed asks Keeps a b → ShowsImportMarks key P b c → ShowsImportMarks key P a c
  marks_after ab r = record { items = r.items; shown = told_after ab r.shown; holds = r.holds }

  pub marks_before : {key : StoreKey} {P : List ℕ → Type 0} {a b c : DirAt} → ShowsImportMarks key P a b → OnlyAsksAndKeeps observed asks Keeps b c → ShowsImportMarks key P a c
  marks_before r bc = record { items = r.items; shown = told_before r.shown bc; holds = r.holds }
