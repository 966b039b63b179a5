mod Examples
mod Factors
mod Numbers
mod WideText
