pub mod Printing
mod BoundsPrinting
mod CurvePrinting
mod CurveExamples
