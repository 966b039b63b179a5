pub mod FileBytes
pub mod Working
pub mod Ends
pub mod Statuses
pub mod HeadLengths
pub mod TrueClaims
pub mod Thresholds
pub mod CertificateTexts
mod BoundsExamples
mod DiscountExamples
mod KindExamples
pub mod Accepting
pub mod DiscountStarting
