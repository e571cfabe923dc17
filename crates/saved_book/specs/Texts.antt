-- What is said of a saved book with a fault, as bytes.
use Rattle.std.specs.Prelude.{ℕ, List, ◌++◌, codes, decimal}
use Rattle.orders.specs.Numbers.{number_of}
use Rattle.orders.specs.Words.{words_of}
use Rattle.orders.specs.declared.refusal.Refusal.{Refusal}
use Rattle.orders.specs.declared.refusal.Refusal.TheVariants.{SavedLayout, SavedRecord}
use Rattle.saved_book.specs.Faults.{fault_number}
use Rattle.saved_book.specs.declared.fault.RecordFault.{RecordFault}
use Rattle.saved_book.specs.declared.fault.RecordFault.TheVariants.{Code, Refused}
use Rattle.saved_book.specs.declared.fault.SavedFault.{SavedFault}
use Rattle.saved_book.specs.declared.fault.SavedFault.TheVariants.{Layout, Record}

-- a refusal by its number and in words
abbrev pub refusal_text : Refusal → List ℕ
refusal_text r = codes "refusal " ++ (decimal (number_of r) ++ (codes ": " ++ words_of r))

-- the fault of a record in words
abbrev pub fault_words : RecordFault → List ℕ
fault_words Code = codes "no side or no kind has this code"
fault_words (Refused r) = words_of r

-- the fault of a saved book: its refusal, and which record has which fault
abbrev pub fault_text : SavedFault → List ℕ
fault_text Layout = refusal_text SavedLayout
fault_text (Record place f) =
    codes "refusal " ++ (decimal (number_of SavedRecord) ++ (codes ": record " ++ (decimal place ++ (codes ", fault " ++ (decimal (fault_number f) ++ (codes ": " ++ fault_words f))))))
