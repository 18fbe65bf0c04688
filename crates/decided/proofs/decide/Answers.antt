-- `decided::decide` meets its contract.
use mathlib.Core.Path.{refl}
use Rattle.records.specs.Records.{post_part}
use Rattle.model.specs.Lent.{marking}
use Rattle.decided.proofs.Tests.{byte_tells, pre_listed, found_lacks, found_meets, found_nothing}
use Rattle.decided.proofs.decide.Goals as goal

pub returns-in-Some : goal.returns-in-Some
returns-in-Some c =
    found_lacks c.args.table.now c.args.users.now c.args.at c.args.e c.args.begun.now c.args.places.now c.args.kept.now c.requires c.args.state.now c.args.seen.now _ (post_part c.args.table.now c.args.at) c.pre_at-pre.ensures.reads refl (marking c.args.seen.now c.args.e) refl _ c.first_lacking-lacking.ensures _ c.in-Some.is

pub first_contact-contact-requires : goal.first_contact-contact-requires
first_contact-contact-requires c = pre_listed c.args.table.now c.args.users.now c.args.at c.args.e c.args.begun.now c.args.places.now c.args.kept.now c.requires _ c.pre_at-pre.ensures.reads

pub returns-in-Some-contact : goal.returns-in-Some-contact
returns-in-Some-contact c =
    found_meets c.args.table.now c.args.users.now c.args.at c.args.e c.args.begun.now c.args.places.now c.args.kept.now c.requires c.args.state.now c.args.seen.now _ _ c.pre_at-pre.ensures.reads c.post_at.ensures.reads _ (byte_tells c.args.seen.now c.args.e _ c.byte-again.ensures) _ c.first_lacking-lacking.ensures c.in_default.is _ c.first_contact-contact.ensures _ c.in-Some-contact.is

pub returns : goal.returns
returns c =
    found_nothing c.args.table.now c.args.users.now c.args.at c.args.e c.args.begun.now c.args.places.now c.args.kept.now c.requires c.args.state.now c.args.seen.now _ _ c.pre_at-pre.ensures.reads c.post_at.ensures.reads _ (byte_tells c.args.seen.now c.args.e _ c.byte-again.ensures) _ c.first_lacking-lacking.ensures c.in_default.is _ c.first_contact-contact.ensures c.in_default-contact.is
