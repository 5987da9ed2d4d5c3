use Rattle.std.proofs.Common.{◌∷◌, Err, sym, ap, ◌∙◌, arith}
use Rattle.hex.specs.Hex.{encode_lower}
use Rattle.path_map.specs.declared.entry.Entry.TheVariants.{File}
use Rattle.tree_digest.specs.Fields.{decimal_text, escaped, field}
use Rattle.tree_digest.proofs.Cuts.{cut_once, decimal_clear, hex_clear_space}
use Rattle.tree_digest.proofs.LineTexts.{reads_fault, meta_once, file_of, file_text_is, long_size}
use Rattle.tree_digest.proofs.read_line.read_file.Goals as goal

pub returns-in_default-read_number : goal.returns-in_default-read_number
returns-in_default-read_number c = λ line is.
    let d = file_of c.args.text.now line is in
    let sizes = meta_once c.in-Some.meta d.meta c.in-Some.sizes.now (field (decimal_text d.size) (field (encode_lower d.sha) (escaped line.path))) (sym c.in-Some.ensures.some.0 ∙ d.text_is) in
    c.in_default-read_number.ensures.none d.size (field (encode_lower d.sha) (escaped line.path)) sizes

pub returns-in_default-read_sha : goal.returns-in_default-read_sha
returns-in_default-read_sha c = λ line is.
    let d = file_of c.args.text.now line is in
    let sizes = meta_once c.in-Some.meta d.meta c.in-Some.sizes.now (field (decimal_text d.size) (field (encode_lower d.sha) (escaped line.path))) (sym c.in-Some.ensures.some.0 ∙ d.text_is) in
    let read = c.in-Some-read_number.ensures.some in
    let once = cut_once 32 (decimal_text read.0) c.in-Some-read_number.digits.now (decimal_text d.size) (field (encode_lower d.sha) (escaped line.path)) (decimal_clear 32 read.0 (omega arith)) (decimal_clear 32 d.size (omega arith)) (sym read.2 ∙ sizes) in
    c.in_default-read_sha.ensures.none d.sha (escaped line.path) d.long d.small once.1

pub returns-then-size-gt-MAX_FILE : goal.returns-then-size-gt-MAX_FILE
returns-then-size-gt-MAX_FILE c =
    let read = c.in-Some-read_number.ensures.some in
    let sha = c.in-Some-read_sha.ensures.some in (
      record { path = c.in-Ok.path; entry = File c.in-Some.meta read.0 c.in-Some-read_sha.found.0 },
      (
        record { path = c.in-Ok.ensures.ok.1; entry = (c.in-Some.ensures.some.1, sha.1, sha.2) },
        file_text_is c.args.text.now c.in-Some.sizes.now c.in-Some-read_number.digits.now c.in-Some-read_sha.found.1.now c.in-Ok.path c.in-Some-read_sha.found.0 c.in-Some.meta read.0 c.in-Some.ensures.some.0 read.2 sha.0 c.in-Ok.ensures.ok.0,
      ),
      long_size read.0 c.in-Some-read_number.size read.1 c.if-size-gt-MAX_FILE.true,
    )

pub returns-in-Err : goal.returns-in-Err
returns-in-Err c =
    reads_fault (102 ∷ 32 ∷ c.args.text.now) c.line_fault.result c.line_fault.ensures.short (λ bad line is.
    let d = file_of c.args.text.now line is in
    let sizes = meta_once c.in-Some.meta d.meta c.in-Some.sizes.now (field (decimal_text d.size) (field (encode_lower d.sha) (escaped line.path))) (sym c.in-Some.ensures.some.0 ∙ d.text_is) in
    let read = c.in-Some-read_number.ensures.some in
    let once = cut_once 32 (decimal_text read.0) c.in-Some-read_number.digits.now (decimal_text d.size) (field (encode_lower d.sha) (escaped line.path)) (decimal_clear 32 read.0 (omega arith)) (decimal_clear 32 d.size (omega arith)) (sym read.2 ∙ sizes) in
    let sha = c.in-Some-read_sha.ensures.some in
    let last = cut_once 32 (encode_lower c.in-Some-read_sha.found.0) c.in-Some-read_sha.found.1.now (encode_lower d.sha) (escaped line.path) (hex_clear_space c.in-Some-read_sha.found.0) (hex_clear_space d.sha) (sym sha.0 ∙ once.1) in
    c.in-Err.ensures.bad (ap Err (c.line_fault.ensures.bad bad)) line.path is.0.path last.1)
