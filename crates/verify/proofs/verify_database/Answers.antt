use mathlib.Core.Path.{sym, ◌∙◌}
use native.Mathlib.Omega.{arith}
use Rattle.std.proofs.lemmas.Result.{err_from_is_err_and}
use Rattle.handle.proofs.HandleLaws.{fit}
use Rattle.section.proofs.SectionLaws.{section_length}
use Rattle.verify.proofs.VerifyLaws.{words_section, words_small, recorded_length, words_walked, words_separator, words_swept, database_walked, database_separator, database_malformed, database_accepted}
use Rattle.verify.proofs.verify_database.Goals as goal

pub returns-in_err-record_networks : goal.returns-in_err-record_networks
returns-in_err-record_networks c =
    let a = c.args in
    let p = err_from_is_err_and c.from_residual.result c.from_residual.ensures.1 in
    rw (p.1, p.2)
    record {
      value = database_walked a.image.now a.h a.budget _ _ _ c.requires.bits_value c.in_err-record_networks.ensures;
      bits_after = words_walked a.image.now a.h a.budget _ _ _ c.requires.bits_value c.in_err-record_networks.ensures;
    }

pub is_separated-requires : goal.is_separated-requires
is_separated-requires c = let f = fit _ _ c.requires.image_value in (omega (arith, f.based), omega (arith, f.marked, f.whole))

pub returns-then-not-is_separated : goal.returns-then-not-is_separated
returns-then-not-is_separated c =
    let a = c.args in
    let walked = c.in_ok-record_networks.ensures in
    let separated = sym c.is_separated.ensures ∙ c.if-not-is_separated.true in
    record {
      value = database_separator a.image.now a.h a.budget _ _ c.requires.bits_value walked separated;
      bits_after = words_separator a.image.now a.h a.budget _ _ c.requires.bits_value walked separated;
    }

pub count-offsets-requires : goal.count-offsets-requires
count-offsets-requires c =
    let a = c.args in
    let l = recorded_length a.image.now a.h a.budget _ _ _ c.requires.bits_value c.record_networks.ensures in
    (omega (arith, l), omega (arith, l, words_small a.image.now a.h c.requires.image_value))

pub verify_data_section-requires : goal.verify_data_section-requires
verify_data_section-requires c =
    let a = c.args in
    let l = recorded_length a.image.now a.h a.budget _ _ _ c.requires.bits_value c.record_networks.ensures in
    let f = fit _ _ c.requires.image_value in
    rw c.data_section-section.ensures.result_value
    (omega (arith, l, words_section a.image.now a.h), omega (arith, section_length a.image.now a.h, f.short, f.whole))

pub returns-in-Some : goal.returns-in-Some
returns-in-Some c =
    let a = c.args in
    let walked = c.in_ok-record_networks.ensures in
    let separated = sym c.is_separated.ensures ∙ c.if-not-is_separated.false in
    let swept = rw c.data_section-section.ensures.result_value at c.verify_data_section.ensures in
    record {
      value = database_accepted a.image.now a.h a.budget _ _ c.requires.bits_value walked separated _ _ swept _ _ c.in-Some.is c.count-offsets.ensures;
      bits_after = words_swept a.image.now a.h a.budget _ _ c.requires.bits_value walked separated _ _ swept;
    }

pub returns-in-None : goal.returns-in-None
returns-in-None c =
    let a = c.args in
    let walked = c.in_ok-record_networks.ensures in
    let separated = sym c.is_separated.ensures ∙ c.if-not-is_separated.false in
    let swept = rw c.data_section-section.ensures.result_value at c.verify_data_section.ensures in
    record {
      value = database_malformed a.image.now a.h a.budget _ _ c.requires.bits_value walked separated _ _ swept c.in-None.is;
      bits_after = words_swept a.image.now a.h a.budget _ _ c.requires.bits_value walked separated _ _ swept;
    }
