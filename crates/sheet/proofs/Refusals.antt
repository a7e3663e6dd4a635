-- Any number but 0 leaves the lent buffer as it stood.
use Rattle.std.specs.Prelude.{Err}
use Prim.Native.Nat.{ℕ}
use mathlib.Core.Bool.{Bool, true, false, cond}
use mathlib.Core.List.{List}
use mathlib.Core.Path.{◌≡◌, refl}
use lib.Dec.{ltb}
use lib.ListN.{length}
use Rattle.wire.specs.Numbers.{done}
use Rattle.wire.specs.declared.refusal.Refusal.{Refusal}
use Rattle.wire.specs.declared.refusal.Refusal.TheVariants.{Range}
use Rattle.buffer.proofs.Refusals.{Spares, written_spares}
use Rattle.text.specs.Lines.{lines_of}
use Rattle.sheet.specs.Sheet.{Made, made, fault, packets_in, most_text, import_refused, import_made, import_of, imported_number}
use Rattle.sheet.specs.Packets.{packets_of, sheet_of, export_made, export_of}
use Rattle.sheet.specs.declared.importing.ImportError.TheVariants as wrong
use Rattle.sheet.proofs.Imports.{spared}

pub import_spares : (s out : List ℕ) → (imported_number (import_of s out).answer ≡ done → ⊥) → (import_of s out).left ≡ out
unfolding import_of
import_spares s out n = by_length (ltb most_text (length s)) n
  where
    by_length : (t : Bool) → (imported_number (cond t (import_refused (Err (wrong.Refused Range)) out) (import_made (packets_in (lines_of s)) out)).answer ≡ done → ⊥)
        → (cond t (import_refused (Err (wrong.Refused Range)) out) (import_made (packets_in (lines_of s)) out)).left ≡ out
    by_length true n = refl
    by_length false n = spared (packets_in (lines_of s)) out n

made_spares : (m : Made Refusal) (out : List ℕ) → Spares out (export_made m out)
made_spares (made t) out = written_spares t out
made_spares (fault why) out = λ n. refl

pub export_spares : (s out : List ℕ) → Spares out (export_of s out)
unfolding export_of
export_spares s out = made_spares (sheet_of (packets_of s)) out
