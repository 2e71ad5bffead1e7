-- Laws of the line, and of reading.
mod Line
mod Reading
