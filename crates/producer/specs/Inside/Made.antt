-- What is written of a direct sharing: its lists, and the whole.
use Rattle.std.specs.Prelude.{ℕ, List}
use Rattle.direct.specs.Inside.Placing.{place_by}
use Rattle.producer.specs.Inside.Filing.{words_lists, words_file}
use Rattle.producer.specs.declared.file.DirectFile.{DirectFile}

abbrev pub lists_of : DirectFile → List (List ℕ)
lists_of p = words_lists p.rule.m p.rule.s (place_by p.rule) p.words.now

abbrev pub made : DirectFile → List ℕ
made p = words_file p.rule.m p.rule.s (place_by p.rule) p.table.now p.words.now
