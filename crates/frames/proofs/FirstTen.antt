-- No frame has ten bytes, so the first ten decide which frame the bytes are.
use Rattle.std.proofs.Common.{◌≡◌, ℕ, ◌<◌, false, eqb, leb, List, length, take, Some, None, Ok, Err, Option, Result, sym, refl, ap, ◌∙◌, ⊎_elim, arith}
use Rattle.std.proofs.lemmas.List.{take_all, length-take-le}
use Rattle.std.proofs.lemmas.Bool.{ne_eqb, lt-leb, and_right, cases_lt}
use Rattle.frames.specs.declared.faults.FrameFault.TheVariants.{BadFrame}
use Rattle.frames.specs.declared.faults.LineFault.{LineFault}
use Rattle.buffers.specs.Written.{written}
use Rattle.buffers.specs.declared.room.Bytes.{Bytes}
use Rattle.frames.specs.Decoding.{first_ten, or_not_pairs, decoded_line, framed, line_frame, kept_line, framed_line}
use Rattle.frames.specs.Frames.{frame_of}
use Rattle.frames.specs.Laws.{TenDecide}
use Rattle.frames.specs.Lines.{PlainLine, frame_bytes}

too_long : (bytes : List ℕ) → 9 < length bytes → frame_of bytes ≡ Err BadFrame
too_long bytes h =
    let five : eqb (length bytes) 5 ≡ false = ne_eqb _ _ (λ e. omega arith) in
    let nine : eqb (length bytes) 9 ≡ false = ne_eqb _ _ (λ e. omega arith) in
    let one : eqb (length bytes) 1 ≡ false = ne_eqb _ _ (λ e. omega arith) in
    let past : leb (length bytes) 9 ≡ false = lt-leb _ _ h in
    let correction = and_right (leb 7 (length bytes)) (leb (length bytes) 9) past in
    rw (five, nine, correction, one)

pub ten_decide : TenDecide
ten_decide bytes =
    ⊎_elim
    (λ h. ap frame_of (take_all 10 bytes (omega arith)))
    (λ h. too_long (take 10 bytes) (omega (arith, length-take-le 10 bytes h)) ∙ sym (too_long bytes (omega arith)))
    (cases_lt (length bytes) 10)

-- so what decoding a line answers decides its frame
same_frame : (r : Result (Bytes 10) LineFault) (o : Option (List ℕ)) → kept_line r ≡ or_not_pairs (first_ten o) → framed_line r ≡ framed o
same_frame (Ok d) (Some bytes) e =
    let same : written d ≡ take 10 bytes = cc in
    ap Some (ap frame_of same ∙ ten_decide bytes)
same_frame (Ok d) None e = let z : ◌≡◌ {A = ℕ} 0 1 = cc in absurd (omega arith)
same_frame (Err fault) (Some bytes) e = let z : ◌≡◌ {A = ℕ} 0 1 = cc in absurd (omega arith)
same_frame (Err fault) None e = refl

pub same_line_frame : (r : Result (Bytes 10) LineFault) (l : PlainLine) → kept_line r ≡ decoded_line l → framed_line r ≡ line_frame l
same_line_frame r l e = same_frame r (frame_bytes l) e
