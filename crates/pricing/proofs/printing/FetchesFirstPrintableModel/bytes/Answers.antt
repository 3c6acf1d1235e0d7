use Rattle.std.proofs.Common.{◌≡◌, ℕ, List, ◌++◌, length, take, drop, sym, ap, ◌∙◌, append_assoc, length-append, drop-drop, take_at, drop_at, arith, rules}
use Rattle.pricing.specs.Shown.{in_bytes}
use Rattle.pricing.specs.Bytes.{in_bytes_length, four_bytes, eight_bytes}
use Rattle.pricing.proofs.printing.FetchesFirstPrintableModel.bytes.Goals as goal

-- bytes at the front, and others behind them
two_parts : (s t r : List ℕ) → length s ≡ 4 → length t ≡ 8 → take 4 (s ++ drop 4 r) ++ (t ++ drop 8 (drop 4 (s ++ drop 4 r))) ≡ (s ++ t) ++ drop (length (s ++ t)) r
two_parts s t r h k =
    let after : drop 8 (drop 4 (s ++ drop 4 r)) ≡ drop 12 r = ap (drop 8) (drop_at s (drop 4 r) 4 h) ∙ drop-drop 8 4 r in
    let long : length (s ++ t) ≡ 12 = omega (arith, length-append s t) in
    rw (take_at s (drop 4 r) 4 h, after, long) (sym (append_assoc s t (drop 12 r)))

pub returns-clause-count : goal.returns-clause-count
returns-clause-count c =
    let f = c.args.price.fetches in
    let m = c.args.price.ms in
    omega (arith, length-append (in_bytes 4 f) (in_bytes 8 m), in_bytes_length 4 f, in_bytes_length 8 m)

pub returns-clause-written : goal.returns-clause-written
returns-clause-written c =
    let f = c.args.price.fetches in
    let m = c.args.price.ms in
    let front : c.copy_from_slice.new.self ≡ in_bytes 4 f = c.copy_from_slice.ensures.after ∙ c.to_be_bytes.ensures ∙ four_bytes _ (search rules) in
    let back : c.copy_from_slice-2.new.self ≡ in_bytes 8 m = c.copy_from_slice-2.ensures.after ∙ c.to_be_bytes-2.ensures ∙ eight_bytes _ (search rules) in
    rw (front, back) (two_parts (in_bytes 4 f) (in_bytes 8 m) c.args.room.now (in_bytes_length 4 f) (in_bytes_length 8 m))
