-- What the exits of the functions on entries need, in the form in which the code gives it.
use Prim.Native.Nat.{ℕ, ◌+◌, ◌-◌, ◌<◌, ◌≤◌}
use mathlib.Core.Bool.{Bool, true, false, not}
use mathlib.Core.List.{List}
use mathlib.Core.Path.{◌≡◌}
use native.Mathlib.Nat.{zero-add}
use native.Mathlib.Omega.{arith}
use lib.Dec.{eqb}
use lib.ListN.{length, drop, set}
use Rattle.entry.specs.declared.Entry.{Entry}
use Rattle.fields.specs.Record.{records_from, records_length, all_are}
use Rattle.fields.proofs.Turns.{bad, all_good, all_long, Reading, one_read, all_read}
use Rattle.layout.specs.Entries.{entry_length, is_entry, are_entries, read_entry, read_entries}

-- what the looks at the entries that are left will say, is what they say of all
abbrev pub Looking : List ℕ → (i at : ℕ) → Type 0
Looking s i at = all_are is_entry (records_from entry_length (31 - i) (drop at s)) ≡ all_are is_entry (records_from entry_length 31 s)

pub entries_start : (s : List ℕ) → 0 + records_length entry_length (31 - 0) (drop 0 s) ≡ records_length entry_length 31 s
entries_start s = zero-add (records_length entry_length 31 s)

pub entries_bad : (s r : List ℕ) (i at : ℕ) (t : Bool) → Looking s i at → i < 31 → r ≡ drop at s → t ≡ is_entry r → not t ≡ true → false ≡ are_entries s
unfolding are_entries
entries_bad s r i at t h l e f g = rw (← (bad entry_length i 31 at s is_entry (all_are is_entry (records_from entry_length 31 s)) h r t l e f g))

pub entries_good : (s : List ℕ) (i at : ℕ) → Looking s i at → at + records_length entry_length (31 - i) (drop at s) ≡ records_length entry_length 31 s → 31 ≤ i
    → eqb at (length s) ≡ are_entries s
unfolding are_entries
entries_good s i at h g l =
    rw (← (all_good entry_length i 31 at s is_entry (all_are is_entry (records_from entry_length 31 s)) h l), ← (all_long entry_length i 31 at s g l))

pub entry_more : (s r : List ℕ) (l : List Entry) (i at k : ℕ) (e : Entry) → Reading entry_length read_entry 31 s l i at → i < 31 → length l ≡ 31 → r ≡ drop at s → e ≡ read_entry r
    → k ≡ entry_length r → Reading entry_length read_entry 31 s (set l i e) (i + 1) (at + k)
entry_more s r l i at k n h lt e f g m = one_read entry_length read_entry 31 s r l i at k n h lt (omega arith) f g m

pub entries_end : (s : List ℕ) (l : List Entry) (i at : ℕ) → Reading entry_length read_entry 31 s l i at → length l ≡ 31 → 31 ≤ i → l ≡ read_entries s
unfolding read_entries
entries_end s l i at h e le = all_read entry_length read_entry 31 s l i at h le (omega arith)
