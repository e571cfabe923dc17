-- The refusals and the numbers of the faults of a saved book.
use Rattle.std.specs.Prelude.{ℕ}
use Rattle.orders.specs.Numbers.{number_of}
use Rattle.orders.specs.declared.refusal.Refusal.{Refusal}
use Rattle.orders.specs.declared.refusal.Refusal.TheVariants as refusal
use Rattle.saved_book.specs.declared.fault.RecordFault.{RecordFault}
use Rattle.saved_book.specs.declared.fault.RecordFault.TheVariants.{Code, Refused}
use Rattle.saved_book.specs.declared.fault.SavedFault.{SavedFault}
use Rattle.saved_book.specs.declared.fault.SavedFault.TheVariants.{Layout, Record}
use Rattle.saved_book.specs.declared.fault.LoadFault.{LoadFault}
use Rattle.saved_book.specs.declared.fault.LoadFault.TheVariants.{Saved, StoreUnfit}

-- 0 for a code, and else the number of the refusal
abbrev pub fault_number : RecordFault → ℕ
fault_number Code = 0
fault_number (Refused r) = number_of r

abbrev pub saved_refusal : SavedFault → Refusal
saved_refusal Layout = refusal.SavedLayout
saved_refusal (Record place f) = refusal.SavedRecord

abbrev pub load_refusal : LoadFault → Refusal
load_refusal (Saved f) = saved_refusal f
load_refusal StoreUnfit = refusal.StoreUnfit
