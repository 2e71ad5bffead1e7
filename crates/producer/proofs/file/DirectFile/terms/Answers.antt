use Rattle.std.proofs.Common.{rules}
use Rattle.producer.proofs.DirectFiles.{width_shifts, none_counted, term_fits, power_fits, word_fits, sum_fits, counted_more, all_counted, all_within}
use Rattle.producer.proofs.file.DirectFile.terms.Goals as goal

pub power-requires : goal.power-requires
power-requires c = search width_shifts

pub loop-u-init : goal.loop-u-init
loop-u-init c = search none_counted

pub overflow_cast-u : goal.overflow_cast-u
overflow_cast-u c = search term_fits

pub pow-requires : goal.pow-requires
pow-requires c = search power_fits

pub overflow_mul-terms : goal.overflow_mul-terms
overflow_mul-terms c = search (rules, word_fits)

pub overflow_add-terms : goal.overflow_add-terms
overflow_add-terms c = search (rules, sum_fits)

pub loop-u-preserved : goal.loop-u-preserved
loop-u-preserved c = search (rules, counted_more)

pub returns : goal.returns
returns c = (search all_counted, search all_within)
