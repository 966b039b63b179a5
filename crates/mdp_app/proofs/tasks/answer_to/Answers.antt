use Rattle.std.proofs.Common.{sym, ap}
use Rattle.mdp_job.specs.Job.{plain_task}
use Rattle.mdp_app.proofs.Deciding.{printed_as}
use Rattle.mdp_app.proofs.tasks.answer_to.Goals as goal

pub returns-in-Witness-clause-printed : goal.returns-in-Witness-clause-printed
returns-in-Witness-clause-printed c = printed_as _ _ _ _ (ap plain_task (sym c.in-Witness.is)) c.witness_query.ensures.printed

pub returns-in-Horizon-clause-printed : goal.returns-in-Horizon-clause-printed
returns-in-Horizon-clause-printed c = printed_as _ _ _ _ (ap plain_task (sym c.in-Horizon.is)) c.horizon_query.ensures.printed

pub returns-in-Total-clause-printed : goal.returns-in-Total-clause-printed
returns-in-Total-clause-printed c = printed_as _ _ _ _ (ap plain_task (sym c.in-Total.is)) c.total_query.ensures.printed

pub returns-in-Discount-clause-printed : goal.returns-in-Discount-clause-printed
returns-in-Discount-clause-printed c = printed_as _ _ _ _ (ap plain_task (sym c.in-Discount.is)) c.discount_query.ensures.printed

pub returns-in-Bounds-clause-printed : goal.returns-in-Bounds-clause-printed
returns-in-Bounds-clause-printed c = printed_as _ _ _ _ (ap plain_task (sym c.in-Bounds.is)) c.bounds_query.ensures.printed

pub returns-in-BoundsUntil-clause-printed : goal.returns-in-BoundsUntil-clause-printed
returns-in-BoundsUntil-clause-printed c = printed_as _ _ _ _ (ap plain_task (sym c.in-BoundsUntil.is)) c.until_bounds_query.ensures.printed

pub returns-in-BoundsTotal-clause-printed : goal.returns-in-BoundsTotal-clause-printed
returns-in-BoundsTotal-clause-printed c = printed_as _ _ _ _ (ap plain_task (sym c.in-BoundsTotal.is)) c.total_bounds_query.ensures.printed

pub returns-in-BoundsDiscount-clause-printed : goal.returns-in-BoundsDiscount-clause-printed
returns-in-BoundsDiscount-clause-printed c = printed_as _ _ _ _ (ap plain_task (sym c.in-BoundsDiscount.is)) c.bounds_discount_query.ensures.printed

pub returns-in-BoundsWitness-clause-printed : goal.returns-in-BoundsWitness-clause-printed
returns-in-BoundsWitness-clause-printed c = printed_as _ _ _ _ (ap plain_task (sym c.in-BoundsWitness.is)) c.bounds_witness_query.ensures.printed

pub returns-in-CurveUntil-clause-printed : goal.returns-in-CurveUntil-clause-printed
returns-in-CurveUntil-clause-printed c = printed_as _ _ _ _ (ap plain_task (sym c.in-CurveUntil.is)) c.until_curve_query.ensures.printed

pub returns-in-CurveTotal-clause-printed : goal.returns-in-CurveTotal-clause-printed
returns-in-CurveTotal-clause-printed c = printed_as _ _ _ _ (ap plain_task (sym c.in-CurveTotal.is)) c.total_curve_query.ensures.printed
