mod Answering
mod Held
mod Putting
mod BiasOf
mod ExcessOf
mod Meets
mod Adding
mod Passing
pub mod OneEnd
mod Joinings
mod Certified
mod InnersExist
mod QuotientExists
mod HasEnd
mod Examples
