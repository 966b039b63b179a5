mod Deciding
mod InRange
mod Answering
