-- Calls that are to fail.
use Rattle.std.specs.Prelude.{ℕ, Option, if◌then◌else◌, refl}
use Rattle.std.specs.Ordering.{nat_cmp}
use Rattle.std.specs.FinMap as map
use Rattle.std.specs.Coded.{Coded, coded_ℕ, coded×, code_by}
use Rattle.outside.specs.Faults.{one_more}

-- from the number of a call that is to fail to how many bytes it keeps
abbrev pub NamedCalls : Type 0
NamedCalls = map.FinMap nat_cmp ℕ

-- the calls that are named, how many were made, and how many failed; both counts stay at 2 ^ 64 - 1
pub record Failing : Type 0 where
  pub named : NamedCalls
  pub calls : ℕ
  pub faults : ℕ

-- it is coded as its three parts
abbrev pub coded_failing : Coded Failing
coded_failing =
    code_by (NamedCalls × (ℕ × ℕ)) (coded× (map.code coded_ℕ coded_ℕ) (coded× coded_ℕ coded_ℕ))
    (λ f. (f.named, (f.calls, f.faults))) (λ p. record { named = p.0; calls = p.1.0; faults = p.1.1 }) (λ _. refl)

-- nothing is named, and nothing was called
abbrev pub no_failing : Failing
no_failing = record { named = map.empty; calls = 0; faults = 0 }

-- how many bytes the next call keeps, where it is named
abbrev pub next_kept : Failing → Option ℕ
next_kept failing = map.get failing.named failing.calls

-- after a call that didn't fail
abbrev pub after_call : Failing → Failing
after_call failing = record failing { calls = one_more failing.calls }

-- after a call that failed
abbrev pub after_failure : Failing → Failing
after_failure failing = record failing { calls = one_more failing.calls; faults = one_more failing.faults }

-- after a call is named; where it was named before, that naming stays
abbrev pub after_naming : Failing → ℕ → ℕ → Failing
after_naming failing call kept = record failing {
  named = if map.contains_key failing.named call then failing.named else map.insert failing.named call kept;
}
