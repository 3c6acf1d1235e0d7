-- The bytes of a room that count.
use Rattle.std.specs.Prelude.{ℕ, List, take}
use Rattle.buffers.specs.declared.room.Bytes.{Bytes}

abbrev pub written : {N : ℕ} → Bytes N → List ℕ
written bytes = take bytes.len bytes.room
