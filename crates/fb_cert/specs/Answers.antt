-- What the code's answers are in the words of the readers.
use Rattle.std.specs.Prelude.{◌≡◌, Result, Ok, Err}
use Rattle.fb_faults.specs.declared.certificate.CertFault.{CertFault}
use Rattle.fb_faults.specs.declared.certificate.CertFault.TheVariants.{OutOfMemory, TooLong, Row, DuplicateRow}

abbrev pub Fails : {Y : Type 0} → CertFault → Result Y CertFault → Type 0
Fails OutOfMemory read = Unit {0}
Fails TooLong read = read ≡ Err TooLong
Fails (Row line) read = read ≡ Err (Row line)
Fails (DuplicateRow line) read = read ≡ Err (DuplicateRow line)

-- What a function returned, seen by view, is what reading gives, unless memory ran out.
abbrev pub Gives : {X Y : Type 0} → (X → Y) → Result X CertFault → Result Y CertFault → Type 0
Gives view (Ok x) read = read ≡ Ok (view x)
Gives view (Err e) read = Fails e read

-- What a function made, if it returned `Ok`, is what reading gives, unless memory ran out.
abbrev pub Makes : {X Y : Type 0} → Y → Result X CertFault → Result Y CertFault → Type 0
Makes made (Ok x) read = read ≡ Ok made
Makes made (Err e) read = Fails e read

-- it is found, or memory ran out
abbrev pub Finds : {X Y : Type 0} → (X → Y) → Result X CertFault → Y → Type 0
Finds view (Ok x) y = view x ≡ y
Finds view (Err OutOfMemory) y = Unit {0}
Finds view (Err TooLong) y = ⊥
Finds view (Err (Row line)) y = ⊥
Finds view (Err (DuplicateRow line)) y = ⊥

-- the fault is told, or memory ran out
abbrev pub Tells : {X : Type 0} → CertFault → Result X CertFault → Type 0
Tells fault (Ok x) = ⊥
Tells fault (Err OutOfMemory) = Unit {0}
Tells fault (Err TooLong) = TooLong ≡ fault
Tells fault (Err (Row line)) = Row line ≡ fault
Tells fault (Err (DuplicateRow line)) = DuplicateRow line ≡ fault
