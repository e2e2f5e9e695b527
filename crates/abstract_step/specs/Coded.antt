-- How results are stored.
use Rattle.std.specs.Prelude.{ℕ, Bool, List, refl}
use Rattle.std.specs.Coded.{Coded, code_by, coded×, coded_ℕ, coded_bool, coded_list}
use Rattle.box_contents.specs.declared.entry.Entry.{Entry}
use Rattle.box_masks.specs.declared.write.Write.{Write}
use Rattle.abstract_step.specs.declared.put.Put.{Put}
use Rattle.abstract_step.specs.Step.{Result}

abbrev pub put_code : Coded Put
put_code =
    code_by (ℕ × ℕ) (coded× coded_ℕ coded_ℕ) (λ put. (put.port, put.packet))
    (λ pair. record { port = pair.0; packet = pair.1 }) (λ _. refl)

abbrev pub entry_code : Coded Entry
entry_code =
    code_by (ℕ × ℕ) (coded× coded_ℕ coded_ℕ) (λ entry. (entry.relation, entry.tuple))
    (λ pair. record { relation = pair.0; tuple = pair.1 }) (λ _. refl)

abbrev pub write_code : Coded Write
write_code =
    code_by (Entry × Bool) (coded× entry_code coded_bool) (λ write. (write.entry, write.add))
    (λ pair. record { entry = pair.0; add = pair.1 }) (λ _. refl)

abbrev pub result_code : Coded Result
result_code =
    code_by (Bool × (List Write × List Put)) (coded× coded_bool (coded× (coded_list write_code) (coded_list put_code)))
    (λ result. (result.aborted, (result.writes, result.puts)))
    (λ parts. record { aborted = parts.0; writes = parts.1.0; puts = parts.1.1 }) (λ _. refl)
