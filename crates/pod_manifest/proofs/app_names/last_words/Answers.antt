use Rattle.std.proofs.Common.{ℕ, ◌<◌, List, [], ◌∷◌, ◌++◌, get_or, ap, ◌∙◌, sym, subst, arith}
use Rattle.std.specs.Prelude.{if◌then◌else◌}
use Rattle.std.proofs.lemmas.List.{take_all}
use Rattle.ac_types.specs.Names.{are_words, is_hyphen, is_separator}
use Rattle.pod_manifest.specs.AppNames.{hyphenated, is_slash, last_words}
use Rattle.pod_manifest.proofs.LastWords.{last_words_are, words_push}
use Rattle.pod_manifest.proofs.Words.{separator_ascii, words_ascii}
use Rattle.pod_manifest.proofs.app_names.last_words.Goals as goal

pub with_byte-requires : goal.with_byte-requires
with_byte-requires c =
    let IsSmall : List ℕ → Type 0 = λ bs. get_or bs c.loop-byte.byte-index 0 < 128 in
    subst IsSmall (sym c.as_bytes-bytes.ensures.value)
    (words_ascii is_separator separator_ascii c.args.image.now c.requires c.loop-byte.byte-index)

pub loop-byte-preserved : goal.loop-byte-preserved
loop-byte-preserved c =
    let bytes = c.as_bytes-bytes.result.now in
    let b = get_or bytes c.loop-byte.byte-index 0 in
    c.in_ok-words.ensures
    ∙ ap (λ (t : List ℕ). if is_slash b then [] else t ++ hyphenated b ∷ []) c.loop-byte.invariant
    ∙ sym (words_push bytes c.loop-byte.byte-index c.loop-byte-test.true)

pub returns : goal.returns
returns c =
    let bytes = c.as_bytes-bytes.result.now in
    let read = c.loop-byte.invariant
    ∙ ap last_words (take_all c.loop-byte.byte-index bytes (omega arith) ∙ c.as_bytes-bytes.ensures.value) in
    record {
      bytes = read;
      kind = ap (are_words is_hyphen) read ∙ last_words_are c.args.image.now c.requires;
    }
