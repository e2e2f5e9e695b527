-- Files and an output in memory whose calls can be made to fail.
use Rattle.std.specs.Prelude.{◌≡◌, ℕ, List, ◌⊎◌, Result, Err, refl}
use Rattle.std.specs.Coded.{Coded, coded_ℕ, coded_list, coded×, code_by}
use Rattle.outside.specs.Failing.{Failing, coded_failing}
use Rattle.outside.specs.Files.{FileMap, coded_files}

-- the files, and which calls on them are to fail
pub record FailingFiles : Type 0 where
  pub files : FileMap
  pub failing : Failing

-- they are coded as their two parts
abbrev pub coded_failing_files : Coded FailingFiles
coded_failing_files =
    code_by (FileMap × Failing) (coded× coded_files coded_failing)
    (λ memory. (memory.files, memory.failing)) (λ p. record { files = p.0; failing = p.1 }) (λ _. refl)

-- the bytes that were written, and which puts are to fail
pub record FailingBytes : Type 0 where
  pub bytes : List ℕ
  pub failing : Failing

-- they are coded as their two parts
abbrev pub coded_failing_bytes : Coded FailingBytes
coded_failing_bytes =
    code_by (List ℕ × Failing) (coded× (coded_list coded_ℕ) coded_failing)
    (λ memory. (memory.bytes, memory.failing)) (λ p. record { bytes = p.0; failing = p.1 }) (λ _. refl)

-- the answer is one of two errors
abbrev pub IsErrOfEither : {T E : Type 0} → Result T E → E → E → Type 0
IsErrOfEither answer first second = (answer ≡ Err first) ⊎ (answer ≡ Err second)
