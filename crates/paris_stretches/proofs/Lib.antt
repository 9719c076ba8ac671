mod Bits
mod Least
mod Others
mod Rising
mod Rooms
mod Same
mod Spans
mod Words
